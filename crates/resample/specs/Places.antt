-- Preconditions of the inner functions.
use Rattle.std.specs.Prelude.{ℕ, ◌+◌, ◌*◌, ◌≤◌}

-- b is a block of a side of at most 4,096 reduced to 1 to 4,096 blocks, or the end past the last block
pub record Block (side reduced b : ℕ) : Type 0 where
  pub side_high : side ≤ 4096
  pub reduced_low : 1 ≤ reduced
  pub reduced_high : reduced ≤ 4096
  pub end : b ≤ reduced

-- n columns from column x on, in each of `rows` rows from row y on, lie on a grid of w columns that holds len values
pub record Part (len w x n y rows : ℕ) : Type 0 where
  pub wide : w ≤ 4096
  pub right : x + n ≤ w
  pub high : y + rows ≤ 4096
  pub bottom : (y + rows) * w ≤ len
