-- The search of a grid, row by row, for the first cell whose height is not finite.
use Prim.Native.Nat.{ℕ, ◌+◌, ◌*◌, ◌≤◌, ◌<◌}
use mathlib.Core.Path.{◌≡◌, sym, ◌∙◌}
use mathlib.Core.Bool.{Bool, true, false, not}
use mathlib.Core.List.{List}
use native.Mathlib.Nat.{mul_comm, mul-le-mul_right}
use native.Mathlib.Omega.{arith}
use borrow.Author.Tests.{not-true, not-false}
use lib.ListN.{length, get_or}
use lib.Ieee.{Float, nan}
use lib.Ieee.Scale.{finite}
use Rattle.grid.specs.Sides.{cell_of}
use Rattle.grid.specs.Heights.{first_not_finite, FiniteBelow}
use Rattle.grid.proofs.SidesLaws.{cell_lt}
use Rattle.grid.proofs.HeightsLaws.{below_none, below_less, below_more, first_at, first_none}

-- every height before column x of row y is finite
pub record Sought (w : ℕ) (hs : List Float) (x y : ℕ) : Type 0 where
  pub cells : FiniteBelow hs (cell_of w x y)

module _ {w : ℕ} {hs : List Float} where
  pub sought_none : Sought w hs 0 0
  sought_none = record { cells = below_none hs (cell_of w 0 0) (omega arith) }

  -- the height at column x of row y is tested
  module _ {x y : ℕ} (s : Sought w hs x y) {b : Bool} (e : b ≡ finite (get_or hs (cell_of w x y) nan)) where
    pub sought_more : not b ≡ false → Sought w hs (x + 1) y
    sought_more t = record { cells = below_more (omega arith) s.cells (sym e ∙ not-false b t) }

    pub sought_bad : {h : ℕ} → length hs ≡ w * h → x < w → y < h → not b ≡ true → cell_of w x y ≡ first_not_finite hs
    sought_bad {h} n hx hy t =
        sym (first_at (record { place = omega (arith, n, cell_lt w x y hx h hy); bad = sym e ∙ not-true b t; earlier = s.cells }))

  -- the row ends, and the last row ends
  pub sought_row : {x y : ℕ} → Sought w hs x y → w ≤ x → Sought w hs 0 (y + 1)
  sought_row s l = record { cells = below_less (omega arith) s.cells }

  pub sought_done : {h y : ℕ} → Sought w hs 0 y → length hs ≡ w * h → h ≤ y → w * h ≡ first_not_finite hs
  sought_done {h} s n l = sym (first_none hs (below_less (omega (arith, n, mul-le-mul_right w l, mul_comm w h)) s.cells) ∙ n)
