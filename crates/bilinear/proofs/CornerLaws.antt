-- The four samples around a cell lie within the grid, and are small enough to be worked out.
use Prim.Native.Nat.{ℕ, ◌+◌, ◌*◌, ◌^◌, ◌≤◌, ◌<◌}
use mathlib.Core.Path.{◌≡◌, ap₂, ◌∙◌}
use mathlib.Core.Bool.{false, not, ◌&&◌}
use mathlib.Core.List.{List}
use native.Mathlib.Omega.{arith}
use lib.Dec.{eqb, ltb}
use lib.Ieee.{Float}
use borrow.Author.Tests.{ltb-true, eqb-true, not-false}
use Rattle.floats.specs.Stand.{fract_of, index_of}
use Rattle.loops.proofs.TestLaws.{both, by_test}
use Rattle.grid.specs.Sides.{bad_sides}
use Rattle.grid.specs.Directions.{Place}
use Rattle.grid.proofs.SidesLaws.{row_end, row_few, good_sides}
use Rattle.bilinear.specs.Places.{Grid}
use Rattle.bilinear.specs.Samples.{as_source, corner_of, bilinear_at, bilinear_of}

pub place_fits : {w h x y : ℕ} → Place w h x y → (y * w + w ≤ w * h) × (w * h ≤ 2 ^ 24)
place_fits p = row_few p.wide p.high p.row

pub corner_in : {w h x y : ℕ} → Place w h x y → (east south : ℕ) → corner_of as_source w h x y east south < w * h
corner_in {w} {h} {x} {y} p east south =
    by_test (λ (c : ℕ). c < w * h) (ltb (x + east) w && ltb (y + south) h) _ _
    (λ e. let s = both (ltb (x + east) w) (ltb (y + south) h) e in omega (arith, ltb-true (x + east) w s.0, row_end w h (y + south) (ltb-true (y + south) h s.1)))
    (λ e. omega (arith, p.column, place_fits p))

-- an index of a side lies within it
pub index_in : (side : ℕ) (x : Float) {i : ℕ} → i ≡ index_of side x → 1 ≤ side → i < side
index_in side x e l = omega arith

-- columns and rows inside the grid's sides are a place of it
pub place_in : {w h len x y : ℕ} → Grid w h len → x < w → y < h → Place w h x y
place_in g l m = record { wide = g.w_high; high = g.h_high; column = l; row = m }

-- the sample at a column and a row given as floats
pub sample_by : (v : List Float) (w h : ℕ) (x y : Float) {i j : ℕ} {dx dy r : Float}
    → i ≡ index_of w x → dx ≡ fract_of x → j ≡ index_of h y → dy ≡ fract_of y → r ≡ bilinear_at as_source v w h i dx j dy
    → r ≡ bilinear_of as_source v w h x y
unfolding bilinear_of
sample_by v w h x y {i} {j} {dx} {dy} a b c d e =
    e ∙ ap₂ (λ (k : ℕ) (f : Float). bilinear_at as_source v w h k f j dy) a b
    ∙ ap₂ (λ (k : ℕ) (f : Float). bilinear_at as_source v w h (index_of w x) (fract_of x) k f) c d

-- row y of a grid lies within its values, which are few
pub grid_row : {w h len y : ℕ} → Grid w h len → y < h → (y * w + w ≤ len) × (len ≤ 2 ^ 24)
grid_row g l = omega (arith, row_few g.w_high g.h_high l, g.size)

pub grid_good : (w h len : ℕ) → bad_sides w h ≡ false → not (eqb len (w * h)) ≡ false → Grid w h len
grid_good w h len e f =
    let r = good_sides w h e in
    record { w_low = r.columns; w_high = r.wide; h_low = r.rows; h_high = r.high; size = eqb-true len (w * h) (not-false (eqb len (w * h)) f) }
