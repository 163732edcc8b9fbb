-- The grid as a graph of neighbours.
use Rattle.std.specs.Prelude.{ℕ, ◌*◌, ◌<◌, ◌≢◌}
use Rattle.grid.specs.Directions.{Adjacent, Reaches}

-- a cell is a neighbour of its neighbours
abbrev pub Mutual : ℕ → ℕ → Type 0
Mutual w h = (a b : ℕ) → a < w * h → Adjacent w h a b → Adjacent w h b a

-- no cell is its own neighbour
abbrev pub Apart : ℕ → ℕ → Type 0
Apart w h = (a b : ℕ) → a < w * h → Adjacent w h a b → a ≢ b

-- any cell reaches any other by steps to neighbours
abbrev pub Connected : ℕ → ℕ → Type 0
Connected w h = (a b : ℕ) → a < w * h → b < w * h → Reaches w h a b

-- what holds of one cell, and passes from each cell to its neighbours, holds of every cell
abbrev pub Spreads : ℕ → ℕ → Type 1
Spreads w h = (P : ℕ → Type 0) → ((a b : ℕ) → a < w * h → Adjacent w h a b → P a → P b) → (a : ℕ) → a < w * h → P a → (b : ℕ) → b < w * h → P b
