-- Document 01: cells are numbered i = x + y × w, on a grid of w columns and h rows.
use Rattle.std.specs.Prelude.{ℕ, ◌+◌, ◌*◌, ◌/◌, ◌%◌, ◌≤◌, ◌<◌, ◌≡◌, Bool, ◌||◌, eqb, ltb}

abbrev pub cell_of : ℕ → ℕ → ℕ → ℕ
cell_of w x y = x + y * w

-- the column and the row of cell c
abbrev pub column_of : ℕ → ℕ → ℕ
column_of w c = c % w

abbrev pub row_of : ℕ → ℕ → ℕ
row_of w c = c / w

-- columns, rows and cells fit together: each pair of a column and a row has one cell, and each cell one such pair
pub record Coordinates (w h : ℕ) : Type 0 where
  pub column : (x y : ℕ) → x < w → column_of w (cell_of w x y) ≡ x
  pub row : (x y : ℕ) → x < w → row_of w (cell_of w x y) ≡ y
  pub cell : (c : ℕ) → cell_of w (column_of w c) (row_of w c) ≡ c
  pub inside : (x y : ℕ) → x < w → y < h → cell_of w x y < w * h
  pub columns : (c : ℕ) → c < w * h → column_of w c < w
  pub rows : (c : ℕ) → c < w * h → row_of w c < h

-- refusal 1: a side outside 1 to 4,096
abbrev pub bad_side : ℕ → Bool
bad_side s = eqb s 0 || ltb 4096 s

abbrev pub bad_sides : ℕ → ℕ → Bool
bad_sides w h = bad_side w || bad_side h

-- both sides lie in 1 to 4,096
pub record InRange (w h : ℕ) : Type 0 where
  pub columns : 1 ≤ w
  pub rows : 1 ≤ h
  pub wide : w ≤ 4096
  pub high : h ≤ 4096
