-- Base level: the border by the ends of the two sides, four open sides, each side alone, and cell 0, which lies on
-- the north side.
use Prim.Native.Nat.{ℕ, ◌-◌, ◌<◌}
use mathlib.Core.Path.{◌≡◌, refl, sym, ap, ◌∙◌}
use mathlib.Core.Bool.{Bool, true, false, ◌||◌, or-true, or-false}
use mathlib.Core.List.{List}
use native.Mathlib.Nat.{zero-div}
use lib.Dec.{eqb}
use lib.ListN.{get_or}
use lib.Ieee.{Float, nan, le}
use borrow.Author.Tests.{eq-eqb}
use Rattle.grid.specs.Sides.{cell_of, column_of, row_of}
use Rattle.grid.specs.Base.{on_border, open_end, base_at, base_on, AllOpen, EachSide}
use Rattle.grid.specs.declared.OpenSides.{OpenSides}
use Rattle.grid.proofs.SidesLaws.{column_cell, row_cell}

or_swap : (a b c d : Bool) → (a || b || c || d) ≡ (a || c || (b || d))
or_swap true b c d = refl
or_swap false true true d = refl
or_swap false true false d = refl
or_swap false false true d = refl
or_swap false false false d = refl

pub border_ends : (w h x y : ℕ) → on_border w h x y ≡ (eqb x 0 || eqb x (w - 1) || (eqb y 0 || eqb y (h - 1)))
border_ends w h x y = or_swap (eqb x 0) (eqb y 0) (eqb x (w - 1)) (eqb y (h - 1))

pub all_open_lem : AllOpen
all_open_lem w h water hs c = ap (λ (b : Bool). b || le (get_or hs c nan) water) (sym (border_ends w h (column_of w c) (row_of w c)))

pub each_side : EachSide
each_side w h x y = record { north = or-false (eqb y 0); east = or-false (eqb x (w - 1)); south = refl; west = or-false (eqb x 0 || false) ∙ or-false (eqb x 0) }

-- cell 0 lies on the north side
pub base_first : (w h : ℕ) (o : OpenSides) (water : Float) (hs : List Float) → o.north ≡ true → base_on w h o water hs 0 ≡ true
base_first w h o water hs e =
    rw (e, zero-div w, eq-eqb 0 0 refl) (ap (λ (z : Bool). z || le (get_or hs 0 nan) water) (or-true (open_end o.west o.east w (column_of w 0))))

-- base level of a cell from its column and row, as `is_base` has it
pub base_cell : (w h x y : ℕ) (o : OpenSides) (water : Float) (hs : List Float) → x < w → base_at w h o water x y (get_or hs (cell_of w x y) nan) ≡ base_on w h o water hs (cell_of w x y)
base_cell w h x y o water hs l = rw (column_cell w x y l, row_cell w x y l)
