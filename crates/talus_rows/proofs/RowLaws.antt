-- A row as runs of cells.
use Prim.Native.Nat.{ℕ, zero, suc, ◌+◌, ◌-◌, ◌*◌, ◌≤◌, ◌<◌, min}
use mathlib.Core.Path.{◌≡◌, sym, ap, ap₂, ◌∙◌}
use mathlib.Core.List.{List}
use native.Mathlib.Omega.{arith}
use lib.Ieee.{Float}
use Rattle.loops.specs.Loops.{turns}
use Rattle.loops.proofs.TurnLaws.{turns_same}
use Rattle.talus.specs.Talus.{slide_cell, slide_cells, slide_row}

-- the whole row is the run of its w cells
row_cells : (w h : ℕ) (ts hs : List Float) (strength water : Float) (y : ℕ) (out : List Float)
    → slide_cells w h ts hs strength water y 0 w out ≡ slide_row w h ts hs strength water y out
unfolding slide_cells slide_row
row_cells w h ts hs strength water y out =
    turns_same _ _ out w (λ i t l. let e : 0 + i + y * w ≡ i + y * w = omega arith in ap (λ (c : ℕ). slide_cell w h ts hs strength water c t) e)

module _ (w h : ℕ) (ts hs : List Float) (strength water : Float) (y : ℕ) (out : List Float) where
  pub cells_none : (x n : ℕ) → out ≡ slide_cells w h ts hs strength water y x (min 0 n) out
  unfolding slide_cells turns
  cells_none x n = let e : min 0 n ≡ 0 = omega arith in rw e

  -- two runs of cells, the second from where the first ends
  cells_join : (x a b : ℕ) → slide_cells w h ts hs strength water y (x + a) b (slide_cells w h ts hs strength water y x a out) ≡ slide_cells w h ts hs strength water y x (a + b) out
  unfolding slide_cells turns
  cells_join x a zero = let e : a ≡ a + 0 = omega arith in ap (λ (n : ℕ). slide_cells w h ts hs strength water y x n out) e
  cells_join x a (suc b) =
      let e : suc (a + b) ≡ a + suc b = omega arith in
      let f : x + a + b + y * w ≡ x + (a + b) + y * w = omega arith in
      ap₂ (slide_cell w h ts hs strength water) f (cells_join x a b) ∙ ap (λ (n : ℕ). slide_cells w h ts hs strength water y x n out) e

  -- one block more of at most 64 cells, and all of them
  pub cells_block : (x i n b : ℕ) (s r : List Float)
      → s ≡ slide_cells w h ts hs strength water y x (min i n) out
      → i < n
      → b ≡ min 64 (n - i)
      → r ≡ slide_cells w h ts hs strength water y (x + i) b s
      → r ≡ slide_cells w h ts hs strength water y x (min (i + 64) n) out
  cells_block x i n b s r e l k f =
      let done : min i n ≡ i = omega arith in
      let more : i + b ≡ min (i + 64) n = omega arith in
      f
      ∙ ap (slide_cells w h ts hs strength water y (x + i) b) (e ∙ ap (λ (m : ℕ). slide_cells w h ts hs strength water y x m out) done)
      ∙ cells_join x i b
      ∙ ap (λ (m : ℕ). slide_cells w h ts hs strength water y x m out) more

  pub cells_end : (x i n : ℕ) (s : List Float) → s ≡ slide_cells w h ts hs strength water y x (min i n) out → n ≤ i → s ≡ slide_cells w h ts hs strength water y x n out
  cells_end x i n s e l = let all : min i n ≡ n = omega arith in e ∙ ap (λ (m : ℕ). slide_cells w h ts hs strength water y x m out) all

  -- the first cell, the n after it, and the rest
  pub row_parts : (n : ℕ) (first middle last : List Float)
      → 1 + n ≤ w
      → first ≡ slide_cells w h ts hs strength water y 0 1 out
      → middle ≡ slide_cells w h ts hs strength water y 1 n first
      → last ≡ slide_cells w h ts hs strength water y (1 + n) (w - (1 + n)) middle
      → last ≡ slide_row w h ts hs strength water y out
  row_parts n first middle last l f m e =
      let all : (1 + n) + (w - (1 + n)) ≡ w = omega arith in
      let zero-and : 0 + (1 + n) ≡ 1 + n = omega arith in
      e ∙ ap (slide_cells w h ts hs strength water y (1 + n) (w - (1 + n))) (m ∙ ap (slide_cells w h ts hs strength water y 1 n) f ∙ cells_join 0 1 n)
      ∙ ap (λ (x : ℕ). slide_cells w h ts hs strength water y x (w - (1 + n)) (slide_cells w h ts hs strength water y 0 (1 + n) out)) (sym zero-and)
      ∙ cells_join 0 (1 + n) (w - (1 + n))
      ∙ ap (λ (k : ℕ). slide_cells w h ts hs strength water y 0 k out) all
      ∙ row_cells w h ts hs strength water y out
