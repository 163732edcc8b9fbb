-- Columns, rows and cell numbers: from one to the other and back, and the number of cells.
use Prim.Native.Nat.{ℕ, zero, suc, ◌+◌, ◌*◌, ◌^◌, ◌≤◌, ◌<◌}
use native.Mathlib.Nat.{mul_comm, mul-le-mul, mul-le-mul_right, mod-lt, mod-add-div', div-lt_iff_lt-mul, zero-mul}
use native.Mathlib.Omega.{arith}
use mathlib.Core.Path.{◌≡◌, ◌∙◌, ap}
use mathlib.Core.Logic.{◌≢◌}
use mathlib.Core.Bool.{false}
use lib.Arith.{digits_lt, digits_div, digits_mod}
use lib.Dec.{eqb, ltb}
use borrow.Author.Tests.{eqb-false, ltb-false, ne_eqb, le-ltb}
use mir.Syntax.{w64}
use mir.Val.{Fits}
use Rattle.loops.proofs.TestLaws.{neither}
use Rattle.grid.specs.Sides.{cell_of, column_of, row_of, Coordinates, bad_side, bad_sides, InRange}
use Rattle.grid.specs.Directions.{Place}

module _ (w x y : ℕ) (hx : x < w) where
  swapped : cell_of w x y ≡ y * w + x
  swapped = omega arith

  pub column_cell : column_of w (cell_of w x y) ≡ x
  column_cell = ap (column_of w) swapped ∙ digits_mod y hx

  pub row_cell : row_of w (cell_of w x y) ≡ y
  row_cell = ap (row_of w) swapped ∙ digits_div y hx

  pub cell_lt : (h : ℕ) → y < h → cell_of w x y < w * h
  cell_lt h hy = omega (arith, digits_lt hy hx, mul_comm w h)

-- row y ends within the grid
pub row_end : (w h y : ℕ) → y < h → y * w + w ≤ w * h
row_end w h y l = omega (arith, mul-le-mul_right w l, mul_comm w h)

pub cell_back : (w c : ℕ) → cell_of w (column_of w c) (row_of w c) ≡ c
cell_back w c = mod-add-div' c w

-- a grid with a cell has a column
pub some_column : (w h c : ℕ) → c < w * h → 0 < w
some_column zero h c l = omega (arith, zero-mul h)
some_column (suc w) h c l = omega arith

module _ (w h c : ℕ) (l : c < w * h) where
  pub column_lt : column_of w c < w
  column_lt = mod-lt c (some_column w h c l)

  pub row_lt : row_of w c < h
  row_lt = (div-lt_iff_lt-mul (some_column w h c l)).1 (omega (arith, mul_comm w h))

-- a grid in range has at most 2 ^ 24 cells
pub cells_bound : (w h : ℕ) → w ≤ 4096 → h ≤ 4096 → w * h ≤ 2 ^ 24
cells_bound w h hw hh = mul-le-mul hw hh

-- and row y ends within them
pub row_few : {w h y : ℕ} → w ≤ 4096 → h ≤ 4096 → y < h → (y * w + w ≤ w * h) × (w * h ≤ 2 ^ 24)
row_few {w} {h} {y} hw hh l = (row_end w h y l, cells_bound w h hw hh)

pub cells_fit : (w h : ℕ) → w ≤ 4096 → h ≤ 4096 → Fits w64 (w * h)
cells_fit w h hw hh = record { fits = omega (arith, cells_bound w h hw hh) }

pub range_fit : {w h : ℕ} → InRange w h → Fits w64 (w * h)
range_fit {w} {h} r = cells_fit w h r.wide r.high

pub coordinates : (w h : ℕ) → Coordinates w h
coordinates w h =
    record {
      column = column_cell w;
      row = row_cell w;
      cell = cell_back w;
      inside = λ x y hx hy. cell_lt w x y hx h hy;
      columns = column_lt w h;
      rows = row_lt w h;
    }

-- what refusal 1 leaves, both ways
good_side : (s : ℕ) → bad_side s ≡ false → (1 ≤ s) × (s ≤ 4096)
good_side s e =
    let t = neither (eqb s 0) (ltb 4096 s) e in
    let p : s ≢ 0 = eqb-false s 0 t.0 in
    (omega arith, ltb-false 4096 s t.1)

side_in : (s : ℕ) → 1 ≤ s → s ≤ 4096 → bad_side s ≡ false
side_in s lo hi = rw (ne_eqb s 0 (omega arith)) (le-ltb 4096 s hi)

pub good_sides : (w h : ℕ) → bad_sides w h ≡ false → InRange w h
good_sides w h e =
    let t = neither (bad_side w) (bad_side h) e in
    let a = good_side w t.0 in
    let b = good_side h t.1 in
    record { columns = a.0; rows = b.0; wide = a.1; high = b.1 }

pub sides_fit : (w h : ℕ) → bad_sides w h ≡ false → Fits w64 (w * h)
sides_fit w h e = range_fit (good_sides w h e)

pub in_range : {w h : ℕ} → InRange w h → bad_sides w h ≡ false
in_range {w} {h} r = rw (side_in w r.columns r.wide) (side_in h r.rows r.high)

-- each cell of a grid in range has a place
pub place_of : {w h : ℕ} → InRange w h → (c : ℕ) → c < w * h → Place w h (column_of w c) (row_of w c)
place_of {w} {h} r c l = record { column = column_lt w h c l; row = row_lt w h c l; wide = r.wide; high = r.high }
