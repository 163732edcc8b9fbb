-- A block direction by direction is the block cell by cell: what a cell changes in one loop, no earlier cell changes in a later loop.
use Prim.Native.Nat.{ℕ, zero, suc, ◌+◌, ◌*◌, ◌≤◌, ◌<◌}
use mathlib.Core.Path.{◌≡◌, refl, sym, ap, ◌∙◌}
use mathlib.Core.Logic.{◌≢◌}
use mathlib.Core.List.{List, [], ◌∷◌}
use native.Mathlib.Nat.{mul-le-mul}
use native.Mathlib.Omega.{arith}
use native.Mathlib.Decide.{dec_lt}
use lib.Dec.{lit≤}
use lib.ListN.{get_or, set}
use lib.Seq.{get_or-set_other, set_comm}
use lib.Ieee.{Float, nan}
use Rattle.loops.specs.Loops.{turns}
use Rattle.loops.proofs.TurnLaws.{turns_same}
use Rattle.grid.specs.Directions.{neighbour_at}
use Rattle.grid.proofs.SidesLaws.{column_cell}
use Rattle.grid.proofs.NeighbourLaws.{step_x, step_y, each_direction}
use Rattle.grid_inner.specs.Inner.{Inner}
use Rattle.grid_inner.proofs.InnerLaws.{ahead, inner_from}
use Rattle.talus.specs.Talus.{excess_to}
use Rattle.talus_directions.specs.Parts.{InnerRow, lost_from, gained_by, changed, losses, gains_toward, slide_by, slide_all, slide_loops, LoopsCells}
use Rattle.talus_directions.proofs.PassLaws.{inner_column}
use Rattle.talus_directions.proofs.ExchangeLaws.{turns_across, nine_steps}

-- changes of two heights
changed_apart : (f g : Float → Float) (m k : ℕ) (t : List Float) → m ≢ k → changed f m (changed g k t) ≡ changed g k (changed f m t)
changed_apart f g m k t ne =
    ap (λ (v : Float). set (changed g k t) m (f v)) (get_or-set_other t k m (g (get_or t k nan)) nan ne)
    ∙ set_comm t k m (g (get_or t k nan)) (f (get_or t m nan)) (λ e. ne (sym e))
    ∙ ap (λ (v : Float). set (changed f m t) k (g v)) (sym (get_or-set_other t m k (f (get_or t m nan)) nan (λ e. ne (sym e))))

-- the direction of each loop in turn; 0 stands for the cell itself
abbrev order : ℕ → ℕ
order a = get_or (3 ∷ 2 ∷ 1 ∷ 5 ∷ 0 ∷ 4 ∷ 8 ∷ 7 ∷ 6 ∷ []) a 0

-- how many cells the one in direction d lies behind the one in the north-west
abbrev behind : ℕ → ℕ → ℕ
behind w d = ahead (step_x d) + ahead (step_y d) * w

-- its column and row among the nine cells
record Spot (w a : ℕ) : Type 0 where
  column : ℕ
  row : ℕ
  offset : behind w (order a) ≡ column + row * w
  number : column + a ≡ row * 3 + 2
  most : column ≤ 2

spot : (w a : ℕ) → a < 9 → Spot w a
spot w zero l = record { column = 2; row = 0; offset = refl; number = refl; most = lit≤ tt }
spot w (suc a) l =
    each_direction (Spot w)
    (record { column = 1; row = 0; offset = refl; number = refl; most = lit≤ tt })
    (record { column = 0; row = 0; offset = refl; number = refl; most = lit≤ tt })
    (record { column = 2; row = 1; offset = refl; number = refl; most = lit≤ tt })
    (record { column = 1; row = 1; offset = refl; number = refl; most = lit≤ tt })
    (record { column = 0; row = 1; offset = refl; number = refl; most = lit≤ tt })
    (record { column = 2; row = 2; offset = refl; number = refl; most = lit≤ tt })
    (record { column = 1; row = 2; offset = refl; number = refl; most = lit≤ tt })
    (record { column = 0; row = 2; offset = refl; number = refl; most = lit≤ tt })
    (suc a) (omega arith) (omega arith)

order_most : (a : ℕ) → a < 9 → order a ≤ 8
order_most zero l = lit≤ tt
order_most (suc a) l =
    each_direction (λ d. order d ≤ 8) (lit≤ tt) (lit≤ tt) (lit≤ tt) (lit≤ tt) (lit≤ tt) (lit≤ tt) (lit≤ tt) (lit≤ tt) (suc a) (omega arith) (omega arith)

-- of a later cell in an earlier loop, and of an earlier cell in a later loop
spots_apart : (w a b i j c : ℕ) (p : Spot w a) (q : Spot w b) → a < b → i ≤ j → j + 2 < i + w
    → c + j + (p.column + p.row * w) ≢ c + i + (q.column + q.row * w)
spots_apart w a b i j c p q l m n e = go (dec_lt p.row q.row)
  where
    go : Dec (p.row < q.row) → ⊥
    go (yes k) =
        let whole : w ≤ w = omega arith in
        let further : suc p.row * w ≤ q.row * w = mul-le-mul k whole in
        omega (arith, further, p.most, q.most)
    go (no k) =
        let same : p.row ≡ q.row = omega (arith, p.number, q.number, p.most, q.most) in
        omega (arith, ap (λ (r : ℕ). r * w) same, p.number, q.number)

-- the height that cell c changes in direction k
abbrev place_of : ℕ → ℕ → ℕ → ℕ → ℕ
place_of w h c zero = c
place_of w h c (suc k) = neighbour_at w h c (suc k)

place_offset : (w h c k : ℕ) → Inner w h c → k ≤ 8 → place_of w h c k + (w + 1) ≡ c + behind w k
place_offset w h c zero a l = let e : behind w 0 ≡ 1 + 1 * w = refl in omega (arith, e)
place_offset w h c (suc k) a l = inner_from w h c (suc k) (omega arith) l a

-- the heights after each of the nine loops, as the code comes to them
pub record Looped (w h : ℕ) (ts hs : List Float) (y x : ℕ) (totals moved : List Float) (n : ℕ) (out : List Float) (o₁ o₂ o₃ o₄ o₅ o₆ o₇ o₈ o₉ : List Float) : Type 0 where
  pub north_east : o₁ ≡ gains_toward w h ts hs y x totals moved 3 n out
  pub north : o₂ ≡ gains_toward w h ts hs y x totals moved 2 n o₁
  pub north_west : o₃ ≡ gains_toward w h ts hs y x totals moved 1 n o₂
  pub east : o₄ ≡ gains_toward w h ts hs y x totals moved 5 n o₃
  pub own : o₅ ≡ losses w y x totals moved n o₄
  pub west : o₆ ≡ gains_toward w h ts hs y x totals moved 4 n o₅
  pub south_east : o₇ ≡ gains_toward w h ts hs y x totals moved 8 n o₆
  pub south : o₈ ≡ gains_toward w h ts hs y x totals moved 7 n o₇
  pub south_west : o₉ ≡ gains_toward w h ts hs y x totals moved 6 n o₈

module _ (w h : ℕ) (ts hs : List Float) (y x : ℕ) (totals moved : List Float) where
  -- what cell i does in direction k
  abbrev height_of : ℕ → ℕ → Float → Float
  height_of zero i = lost_from (get_or totals i nan) (get_or moved i nan)
  height_of (suc k) i = gained_by (excess_to ts hs (x + i + y * w) (neighbour_at w h (x + i + y * w) (suc k)) (suc k)) (get_or totals i nan) (get_or moved i nan)

  abbrev part_of : ℕ → ℕ → List Float → List Float
  part_of k i = changed (height_of k i) (place_of w h (x + i + y * w) k)

  -- loop by loop
  in_turn : (n : ℕ) (out : List Float) → slide_loops w h ts hs y x totals moved n out ≡ turns 9 (λ a. turns n (part_of (order a))) out
  unfolding turns gains_toward losses
  in_turn n out = refl

  pub looped : {n : ℕ} {out o₁ o₂ o₃ o₄ o₅ o₆ o₇ o₈ o₉ : List Float} → Looped w h ts hs y x totals moved n out o₁ o₂ o₃ o₄ o₅ o₆ o₇ o₈ o₉ → o₉ ≡ slide_loops w h ts hs y x totals moved n out
  looped {n} e =
      e.south_west ∙ ap (gains 6) (e.south ∙ ap (gains 7) (e.south_east ∙ ap (gains 8) (e.west ∙ ap (gains 4) (e.own ∙ ap (losses w y x totals moved n) (e.east ∙ ap (gains 5) (e.north_west
      ∙ ap (gains 1) (e.north ∙ ap (gains 2) e.north_east)))))))
    where
      gains : ℕ → List Float → List Float
      gains d = gains_toward w h ts hs y x totals moved d n

  module _ (cells n : ℕ) (r : InnerRow w h cells y x n) where
    -- the columns of two cells
    near_columns : (i j : ℕ) → i ≤ j → j < n → j + 2 < i + w
    near_columns i j l m =
        let first : i < n = omega arith in
        let west = (inner_column r i first).west in
        let east = (inner_column r j m).east in
        let wide = r.row.columns in
        let a = column_cell w (x + i) y (omega (arith, wide)) in
        let b = column_cell w (x + j) y (omega (arith, wide)) in
        omega (arith, west, east, a, b)

    parts_apart : (a b i j : ℕ) (t : List Float) → a < b → b < 9 → i ≤ j → j < n → part_of (order a) j (part_of (order b) i t) ≡ part_of (order b) i (part_of (order a) j t)
    parts_apart a b i j t l m k o =
        changed_apart (height_of (order a) j) (height_of (order b) i) (place_of w h (x + j + y * w) (order a)) (place_of w h (x + i + y * w) (order b)) t
        (λ e.
        let p = spot w a (omega arith) in
        let q = spot w b m in
        let u = place_offset w h (x + j + y * w) (order a) (inner_column r j o) (order_most a (omega arith)) in
        let v = place_offset w h (x + i + y * w) (order b) (inner_column r i (omega arith)) (order_most b m) in
        spots_apart w a b i j (x + y * w) p q l k (near_columns i j k o) (omega (arith, e, u, v, p.offset, q.offset)))

    -- one cell
    cell_order : (i : ℕ) → i < n → (t : List Float) → slide_by w h ts hs y x totals moved i t ≡ turns 9 (λ a. part_of (order a) i) t
    unfolding turns
    cell_order i l t = nine_steps (λ a. part_of (order a) i) (λ a b u m k. parts_apart a b i i u m k (omega arith) l) t

    loops_all : (out : List Float) → slide_loops w h ts hs y x totals moved n out ≡ slide_all w h ts hs y x totals moved n out
    unfolding slide_all
    loops_all out =
        in_turn n out ∙ sym (turns_across (λ a. part_of (order a)) n 9 (λ a b i j t l m k o. parts_apart a b i j t l m (omega arith) o) out)
        ∙ sym (turns_same (slide_by w h ts hs y x totals moved) (λ i. turns 9 (λ a. part_of (order a) i)) out n (λ i t l. cell_order i l t))

pub loops_cells : LoopsCells
loops_cells = loops_all
