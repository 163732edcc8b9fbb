-- Samples row by row.
use Rattle.std.specs.Prelude.{ℕ, ◌≤◌, ◌<◌, ◌≡◌, List, ◌++◌, length, get_or, drop, Float}
use Rattle.std.specs.Float.{nan, binary32}
use Rattle.std.specs.Float.Ieee.{of_bits, add, sub, mul, div}
use Rattle.floats.specs.Stand.{max_of, fract_of, index_of, whole}
use Rattle.loops.specs.Loops.{tabulate}
use Rattle.bilinear.specs.Samples.{as_source, across_of}

-- x is a column (or row) of a side, or the end past the last one; the side and the reduced side are at most 4,096
pub record Sampled (side reduced x : ℕ) : Type 0 where
  pub full : side ≤ 4096
  pub small : reduced ≤ 4096
  pub inside : x ≤ side

-- where the centre of column (or row) x lies on the reduced side: max((x + 0.5) × coef - 0.5, 0), where coef is reduced
-- / side
abbrev pub centre_of : ℕ → ℕ → ℕ → Float
centre_of side reduced x =
    let coef = div binary32 (whole reduced) (whole side) in
    max_of (sub binary32 (mul binary32 (add binary32 (whole x) (of_bits binary32 0x3f00_0000)) coef) (of_bits binary32 0x3f00_0000)) (of_bits binary32 0)

-- the reduced column (or row) that the centre of column x lies in; `way_of`: how far it lies on the way to the next one,
-- as a fraction
abbrev pub reduced_column : ℕ → ℕ → ℕ → ℕ
reduced_column side reduced x = index_of reduced (centre_of side reduced x)

abbrev pub way_of : ℕ → ℕ → ℕ → Float
way_of side reduced x = fract_of (centre_of side reduced x)

-- cs holds the reduced column of each of w columns, ds its way to the next one
pub record Columns (w dw : ℕ) (cs : List ℕ) (ds : List Float) : Type 0 where
  pub column : (x : ℕ) → x < w → get_or cs x 0 ≡ reduced_column w dw x
  pub way : (x : ℕ) → x < w → get_or ds x nan ≡ way_of w dw x

-- cs' and ds' are cs and ds with the reduced columns and the ways of w columns stored at the front; the rest is as it
-- was
pub record ColumnsPut (w dw : ℕ) (cs : List ℕ) (ds : List Float) (cs' : List ℕ) (ds' : List Float) : Type 0 where
  pub columns : cs' ≡ tabulate w (reduced_column w dw) ++ drop w cs
  pub ways : ds' ≡ tabulate w (way_of w dw) ++ drop w ds

-- the value of the reduced grid `delta` at column x of the map, `south` rows south of row y of the reduced grid
abbrev pub mix_at : List Float → ℕ → ℕ → ℕ → ℕ → ℕ → ℕ → Float
mix_at delta dw dh w y south x = across_of as_source delta dw dh (reduced_column w dw x) (way_of w dw x) y south

-- `row` has 4,096 entries and holds `mix_at` of each of w columns
pub record Mix (delta : List Float) (dw dh w y south : ℕ) (row : List Float) : Type 0 where
  pub at : (x : ℕ) → x < w → get_or row x nan ≡ mix_at delta dw dh w y south x
  pub long : length row ≡ 4096

-- `north` holds the values in row y of the reduced grid, `south` those in the next row
pub record Mixes (delta : List Float) (dw dh w y : ℕ) (north south : List Float) : Type 0 where
  pub northern : Mix delta dw dh w y 0 north
  pub southern : Mix delta dw dh w y 1 south

-- `row` with `mix_at` of w columns stored at the front; `MixesPut`: `north` and `south` with those of row y and of the
-- next row stored at the front
abbrev pub mix_put : List Float → ℕ → ℕ → ℕ → ℕ → ℕ → List Float → List Float
mix_put delta dw dh w y south row = tabulate w (mix_at delta dw dh w y south) ++ drop w row

pub record MixesPut (delta : List Float) (dw dh w y : ℕ) (north south north' south' : List Float) : Type 0 where
  pub northern : north' ≡ mix_put delta dw dh w y 0 north
  pub southern : south' ≡ mix_put delta dw dh w y 1 south
