-- A list over a grid's cells that loops fill from the front, cell by cell or row by row, the value of each cell made from the list so far.
use Prim.Native.Nat.{ℕ, zero, suc, ◌+◌, ◌*◌, ◌≤◌, ◌<◌}
use mathlib.Core.Path.{◌≡◌, sym, ap, ap₂, ◌∙◌}
use mathlib.Core.List.{List}
use native.Mathlib.Nat.{mul_comm, mul-le-mul_right}
use native.Mathlib.Omega.{arith}
use lib.ListN.{length, set}
use Rattle.loops.specs.Loops.{turns, tabulate}
use Rattle.loops.proofs.TurnLaws.{turns_more}
use Rattle.loops.proofs.TableLaws.{filled, filled_more}
use Rattle.loops.proofs.FillLaws.{filling_start, filling_rows}
use Rattle.grid.specs.Sides.{cell_of}
use Rattle.grid.proofs.SidesLaws.{cell_lt}
use Rattle.flood_start.specs.Slices.{row_by}

-- one cell of a row more
pub row_more :
    {A : Type 0} (w : ℕ) (make : ℕ → ℕ → List A → A) (y x : ℕ) (old l : List A) (v : A) → l ≡ row_by w make y x old → v ≡ make x y l
    → set l (cell_of w x y) v ≡ row_by w make y (x + 1) old
row_more w make y x old l v e s = ap₂ (λ t m. set t (cell_of w x y) m) e (s ∙ ap (make x y) e) ∙ sym (turns_more _ x old)

module _ {A : Type 0} (w h : ℕ) (f : ℕ → A) (make : ℕ → ℕ → List A → A) (old : List A) (long : length old ≡ w * h)
    (makes : (x y : ℕ) → x < w → y < h → make x y (filled f (cell_of w x y) old) ≡ f (cell_of w x y)) where
  -- the first x cells of a row, after the rows above it
  row_filled : (y : ℕ) → y < h → (x : ℕ) → x ≤ w → row_by w make y x (filled f (y * w) old) ≡ filled f (x + y * w) old
  unfolding turns
  row_filled y m zero l = let z : y * w ≡ 0 + y * w = omega arith in ap (λ i. filled f i old) z
  row_filled y m (suc x) l =
      ap (λ t. set t (cell_of w x y) (make x y t)) (row_filled y m x (omega arith))
      ∙ ap (set (filled f (x + y * w) old) (cell_of w x y)) (makes x y l m)
      ∙ filled_more f (x + y * w) old (omega (arith, cell_lt w x y l h m))
      ∙ ap (λ i. filled f i old) next
    where
      next : x + y * w + 1 ≡ suc x + y * w
      next = omega arith

  pub rows_more : (y : ℕ) → y < h → (l l' : List A) → l ≡ filled f (y * w) old → l' ≡ row_by w make y w l → l' ≡ filled f ((y + 1) * w) old
  rows_more y m l l' e s =
      let next : w + y * w ≡ (y + 1) * w = omega arith in
      s ∙ ap (row_by w make y w) e ∙ row_filled y m w (omega arith) ∙ ap (λ i. filled f i old) next

pub rows_none : {A : Type 0} (w : ℕ) (f : ℕ → A) (old : List A) → old ≡ filled f (0 * w) old
rows_none w f old = (filling_start w).held

pub rows_done :
    {A : Type 0} (w h : ℕ) (f : ℕ → A) (old l : List A) → length old ≡ w * h → (y : ℕ) → y ≤ h → h ≤ y → l ≡ filled f (y * w) old → l ≡ tabulate (w * h) f
rows_done w h f old l n y a b e = filling_rows w (record { held = e; within = omega (arith, mul_comm w h, mul-le-mul_right w a) }) n b
