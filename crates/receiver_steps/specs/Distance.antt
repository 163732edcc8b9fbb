-- The source's receiver_distance: the distance to a receiver from the numbers of two cells.
use Rattle.std.specs.Prelude.{ℕ, ◌*◌, ◌<◌, ◌≡◌, ◌⊎◌, Bool, cond, eqb, Float}
use Rattle.grid.specs.Sides.{column_of, row_of}
use Rattle.grid.specs.Directions.{Adjacent}
use Rattle.grid_spacing.specs.Distances.{cell_side}
use Rattle.grid_spacing.specs.declared.Distances.{Distances}
use Rattle.drainage.specs.Ground.{ground_by}
use Rattle.drainage.specs.Receivers.{distance_to}

-- 1 for a cell itself, the row spacing for two cells in one column, the column spacing for two in one row, else the
-- diagonal
abbrev pub apart : Distances → ℕ → ℕ → ℕ → Float
apart ds w i r =
    cond (eqb (column_of w i) (column_of w r)) (cond (eqb (row_of w i) (row_of w r)) cell_side ds.row)
    (cond (eqb (row_of w i) (row_of w r)) ds.column ds.diagonal)

-- From a cell to itself or to a neighbour, the distance by the numbers of the two cells is that of the direction which
-- leads there, on any w × h grid and whatever cells are base level.
abbrev pub DistanceByCells : Type 0
DistanceByCells =
    (ds : Distances) (w h : ℕ) (base : ℕ → Bool) (c : ℕ) → c < w * h → (r : ℕ) → (r ≡ c) ⊎ Adjacent w h c r
    → apart ds w c r ≡ distance_to (ground_by w h ds base) c r
