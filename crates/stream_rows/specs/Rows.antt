-- The rows of a stream: document 01, 'The stream', 52 57.
use Rattle.std.specs.Prelude.{ℕ, zero, suc, ◌+◌, ◌*◌, ◌≤◌, ◌≡◌, Bool, true, ◌&&◌, List, length, Float}
use Rattle.loops.specs.Loops.{tabulate}
use Rattle.grid.specs.Sides.{column_of, row_of, InRange}
use Rattle.stream_bytes.specs.Bytes.{number4, float4, row_mark, marked}

-- the bytes of a record 52 57 of w heights
abbrev pub row_length : ℕ → ℕ
row_length w = 2 + 4 * w

-- where row y begins, if the rows begin at byte `rows`
abbrev pub row_at : ℕ → ℕ → ℕ → ℕ
row_at rows w y = rows + y * row_length w

-- the first rows all have their mark
unfoldable pub rows_marked : List ℕ → ℕ → ℕ → ℕ → Bool
rows_marked s rows w zero = true
rows_marked s rows w (suc y) = rows_marked s rows w y && marked s (row_at rows w y) row_mark

-- the height of column x, row y
abbrev pub height_at : List ℕ → ℕ → ℕ → ℕ → ℕ → Float
height_at s rows w x y = float4 s (row_at rows w y + (2 + 4 * x))

-- the heights of row y
unfoldable pub row_heights : List ℕ → ℕ → ℕ → ℕ → List Float
unfolding number4 tabulate
row_heights s rows w y = tabulate w (λ x. height_at s rows w x y)

-- the height of cell i
abbrev pub cell_height : List ℕ → ℕ → ℕ → ℕ → Float
cell_height s rows w i = height_at s rows w (column_of w i) (row_of w i)

-- the heights of all cells, row by row
unfoldable pub heights_at : List ℕ → ℕ → ℕ → ℕ → List Float
unfolding number4 tabulate
heights_at s rows w h = tabulate (w * h) (cell_height s rows w)

-- the rows of a w × h grid in range begin at byte `rows` and fill the stream s to its end
pub record Framed (s : List ℕ) (rows w h : ℕ) : Type 0 where
  pub begins : rows ≤ 36
  pub sides : InRange w h
  pub whole : length s ≡ row_at rows w h
