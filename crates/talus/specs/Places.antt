-- Where cells lie in their map.
use Rattle.std.specs.Prelude.{ℕ, ◌+◌, ◌*◌, ◌≤◌, ◌<◌, ◌≡◌}
use Rattle.grid.specs.Directions.{Place}

-- column x, row y is cell c of a w × h map of n heights
pub record CellAt (w h n x y c : ℕ) : Type 0 where
  pub place : Place w h x y
  pub cells : n ≡ w * h
  pub cell : c ≡ x + y * w

-- n columns from column x on, in row y of a w × h map of `cells` heights
pub record InRow (w h cells y x n : ℕ) : Type 0 where
  pub columns : x + n ≤ w
  pub row : y < h
  pub wide : w ≤ 4096
  pub high : h ≤ 4096
  pub size : cells ≡ w * h
