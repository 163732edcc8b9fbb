-- The number of a step, and where its distance stands in a table.
use Rattle.std.specs.Prelude.{ℕ, ◌+◌, ◌-◌, ◌*◌, ◌/◌, ◌%◌, ◌≤◌, ◌<◌, ◌≡◌, cond, List, [], ◌∷◌, length, get_or, ltb, Float}
use Rattle.loops.specs.Loops.{tabulate}
use Rattle.grid.specs.Sides.{column_of, row_of}
use Rattle.grid_spacing.specs.Distances.{cell_side}
use Rattle.grid_spacing.specs.declared.Distances.{Distances}

-- the table of distances: of cells whose numbers differ by 0, by 1, and by w - 1, w and w + 1
abbrev pub place_distances : Distances → List Float
place_distances ds = cell_side ∷ ds.column ∷ ds.diagonal ∷ ds.row ∷ ds.diagonal ∷ []

-- by how much two numbers differ
abbrev pub gap : ℕ → ℕ → ℕ
gap a b = (a - b) + (b - a)

-- the entry of `place_distances` for cells i and r of a grid of three columns or more
unfoldable pub distance_place : ℕ → ℕ → ℕ → ℕ
distance_place w i r = cond (ltb (gap i r) 2) (gap i r) (gap i r + 3 - w)

-- the number s of the step from cell i to cell r on w columns: r is s % 4 columns east and s / 4 rows south of the
-- north-west neighbour of i
unfoldable pub step_of : ℕ → ℕ → ℕ → ℕ
step_of w i r =
    let past = r + w + 1 - i in
    cond (ltb past w) past (cond (ltb past (w + w)) (past + 4 - w) (past + 8 - w - w))

-- the cell that a step from cell c leads to
abbrev pub stepped_to : ℕ → ℕ → ℕ → ℕ
stepped_to w c s = c + s % 4 + s / 4 * w - w - 1

-- for each step, the number of the cell that it leads to minus the number of the north-west neighbour
unfoldable pub step_offsets : ℕ → List ℕ
unfolding tabulate
step_offsets w = tabulate 16 (λ s. s % 4 + s / 4 * w)

-- the table of distances by the number of the step; 1 for a number that is no step
abbrev pub step_distances : Distances → List Float
step_distances ds =
    ds.diagonal ∷ ds.row ∷ ds.diagonal ∷ cell_side ∷ ds.column ∷ cell_side ∷ ds.column ∷ cell_side ∷ ds.diagonal ∷ ds.row ∷ ds.diagonal ∷ cell_side ∷ cell_side ∷ cell_side ∷ cell_side ∷ cell_side ∷ []

-- cell r is cell i or one of its 8 neighbours, on a grid of w columns
pub record Near (w i r : ℕ) : Type 0 where
  pub some : 0 < w
  pub wide : w ≤ 4096
  pub west : column_of w i ≤ column_of w r + 1
  pub east : column_of w r ≤ column_of w i + 1
  pub north : row_of w i ≤ row_of w r + 1
  pub south : row_of w r ≤ row_of w i + 1

-- the receivers of n cells on a grid of w columns, each its own cell or a neighbour
pub record NearReceivers (w n : ℕ) (recv : List ℕ) : Type 0 where
  pub wide : w ≤ 4096
  pub few : n ≤ 4096 * 4096
  pub receivers : length recv ≡ n
  pub inside : (c : ℕ) → c < n → get_or recv c 0 < n
  pub near : (c : ℕ) → c < n → Near w c (get_or recv c 0)
