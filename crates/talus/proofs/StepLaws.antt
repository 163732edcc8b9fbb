-- One direction of a cell, by the cell m that lies there.
use Prim.Native.Nat.{ℕ, suc, ◌+◌, ◌-◌, ◌*◌, ◌≤◌, ◌<◌}
use mathlib.Core.Path.{◌≡◌, refl, ap, sym, ◌∙◌, subst}
use mathlib.Core.Bool.{true, false, true≢false}
use mathlib.Core.List.{List}
use native.Mathlib.Omega.{arith}
use lib.Ieee.{Float}
use Rattle.loops.specs.Loops.{turns}
use Rattle.loops.proofs.LoopLaws.{Turning, turning_none, turning_more, turning_done}
use borrow.Author.Tests.{lt-ltb, le-ltb}
use lib.IntN.{ℤ}
use mir.Syntax.{w32}
use mir.Val.{of_z, to_z}
use Rattle.grid.specs.Sides.{column_of, row_of}
use Rattle.grid.specs.Directions.{stepped_of, stepped_at, neighbour_at}
use Rattle.grid.proofs.NeighbourLaws.{step_x, step_y, entry_neighbour}
use Rattle.grid.proofs.SidesLaws.{cell_lt, column_cell, row_cell}
use Rattle.grid_inner.specs.Inner.{Inner}
use Rattle.talus.specs.Talus.{shed_to, shed_step, gain_to, gain_step}
use Rattle.talus.specs.Places.{CellAt}
use Rattle.talus.specs.declared.Shed.{Shed}

module _ {w h n x y c : ℕ} (a : CellAt w h n x y c) where
  pub cell_below : c < n
  cell_below = omega (arith, cell_lt w x y a.place.column h a.place.row)

  -- a step from a column and a row is one from their cell
  pub cell_stepped : (dx dy : ℤ) → stepped_at w h c dx dy ≡ stepped_of w h x y dx dy
  cell_stepped dx dy =
      let column = column_cell w x y a.place.column in
      let row = row_cell w x y a.place.column in
      rw (a.cell, column, row)

-- where a step by the entries of a direction leads to no cell, there is no neighbour in that direction
pub none_there : (w h c d : ℕ) → w * h ≤ stepped_at w h c (to_z w32 (of_z w32 (step_x d))) (to_z w32 (of_z w32 (step_y d))) → w * h ≤ neighbour_at w h c d
none_there w h c d l = omega (arith, entry_neighbour w h (column_of w c) (row_of w c) d refl)

-- a cell of which nothing is said
pub any_cell : {w h c : ℕ} → false ≡ true → Inner w h c
any_cell e = absurd (true≢false (sym e))

-- cell m lies in direction d
module _ (w h : ℕ) (ts hs : List Float) (c d m : ℕ) (at : m ≡ neighbour_at w h c d) (l : m < w * h) where
  pub shed_step_in : (s r : Shed) → r ≡ shed_to ts hs c m d s → r ≡ shed_step w h ts hs c d s
  unfolding shed_step
  shed_step_in s r e = e ∙ rw (← at, lt-ltb m (w * h) l)

  pub gain_step_in : (moved total : Float) (out r : List Float) → r ≡ gain_to ts hs c m moved total d out → r ≡ gain_step w h ts hs c moved total d out
  unfolding gain_step
  gain_step_in moved total out r e = e ∙ rw (← at, lt-ltb m (w * h) l)

-- no cell does
module _ (w h : ℕ) (ts hs : List Float) (c d : ℕ) (l : w * h ≤ neighbour_at w h c d) where
  pub shed_step_out : (s r : Shed) → r ≡ s → r ≡ shed_step w h ts hs c d s
  unfolding shed_step
  shed_step_out s r e = e ∙ rw (le-ltb (neighbour_at w h c d) (w * h) l)

  pub gain_step_out : (moved total : Float) (out r : List Float) → r ≡ out → r ≡ gain_step w h ts hs c moved total d out
  unfolding gain_step
  gain_step_out moved total out r e = e ∙ rw (le-ltb (neighbour_at w h c d) (w * h) l)

-- the state of a loop over the eight directions that has done those below d
pub record Around {S : Type 0} (f : ℕ → S → S) (start : S) (d : ℕ) (s : S) : Type 0 where
  pub first : 1 ≤ d
  pub turning : Turning (λ i. f (suc i)) 8 (d - 1) start s

module _ {S : Type 0} (f : ℕ → S → S) (start : S) where
  pub around_none : Around f start 1 start
  around_none = record { first = omega arith; turning = turning_none }

  pub around_more : (d : ℕ) (s r : S) → Around f start d s → d < 9 → r ≡ f d s → Around f start (d + 1) r
  around_more d s r a l e =
      let now : d ≡ suc (d - 1) = omega (arith, a.first) in
      let next : (d - 1) + 1 ≡ (d + 1) - 1 = omega (arith, a.first) in
      record {
        first = omega arith;
        turning = subst (λ (k : ℕ). Turning (λ i. f (suc i)) 8 k start r) next (turning_more a.turning (omega arith) (e ∙ ap (λ (k : ℕ). f k s) now));
      }

  pub around_done : (d : ℕ) (s : S) → Around f start d s → 9 ≤ d → s ≡ turns 8 (λ i. f (suc i)) start
  around_done d s a l = turning_done a.turning (omega arith)
