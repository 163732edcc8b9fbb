-- The inner cells of a map: all eight neighbours of an inner cell are cells of the map.
use Rattle.std.specs.Prelude.{ℕ, ◌+◌, ◌-◌, ◌≤◌, ◌<◌, ◌||◌, cond, eqb, ltb}
use Rattle.grid.specs.Sides.{column_of, row_of}

-- cell c of a w × h map lies on none of its sides
pub record Inner (w h c : ℕ) : Type 0 where
  pub west : 1 ≤ column_of w c
  pub east : column_of w c + 1 < w
  pub north : 1 ≤ row_of w c
  pub south : row_of w c + 1 < h
  pub wide : w ≤ 4096
  pub high : h ≤ 4096

-- the n cells from cell c on are inner cells
pub record InnerRun (w h c n : ℕ) : Type 0 where
  pub inner : (i : ℕ) → i < n → Inner w h (c + i)

-- the number of inner cells of row y: w - 2; 0 in the first and the last row, and where w is below 3
unfoldable pub inner_of : ℕ → ℕ → ℕ → ℕ
inner_of w h y = cond (ltb w 3) 0 (cond (eqb y 0 || eqb y (h - 1)) 0 (w - 2))
