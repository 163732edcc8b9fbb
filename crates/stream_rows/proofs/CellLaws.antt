-- The heights of a stream: each stands inside it; the test of each is that of its cell; and the map that they fill,
-- row by row.
use Prim.Native.Nat.{ℕ, ◌+◌, ◌-◌, ◌*◌, ◌^◌, ◌≤◌, ◌<◌}
use mathlib.Core.Path.{◌≡◌, refl, sym, ap, ap₂, ◌∙◌, subst}
use mathlib.Core.Bool.{Bool, true}
use mathlib.Core.List.{List}
use native.Mathlib.Omega.{arith}
use native.Mathlib.Decide.{dec_lt}
use lib.ListN.{length, get_or}
use lib.Ieee.{Float, nan}
use lib.Ieee.Scale.{finite}
use borrow.Rule.Slice.PartMut.{put_mid}
use Rattle.loops.specs.Loops.{tabulate}
use Rattle.loops.proofs.TableLaws.{length_tabulate, get_d_tabulate}
use Rattle.loops.proofs.FillLaws.{Filling}
use Rattle.loops.proofs.RowFillLaws.{stored_row_at}
use Rattle.grid.specs.Sides.{cell_of}
use Rattle.grid.specs.Heights.{all_finite}
use Rattle.grid.proofs.SidesLaws.{column_cell, row_cell, cell_lt, cells_bound, row_few}
use Rattle.grid.proofs.HeightsLaws.{all_at}
use Rattle.grid.proofs.WalkLaws.{Sought}
use Rattle.stream_rows.proofs.RowLaws.{rows_end}
use Rattle.stream_rows.specs.Rows.{height_at, row_heights, cell_height, heights_at, Framed}

module _ {s : List ℕ} {rows w h : ℕ} (f : Framed s rows w h) where
  pub cells_few : w * h ≤ 2 ^ 24
  cells_few = cells_bound w h f.sides.wide f.sides.high

  module _ {y : ℕ} (hy : y < h) where
    pub row_inside : (y * w + w ≤ w * h) × (w * h ≤ 2 ^ 24)
    row_inside = row_few f.sides.wide f.sides.high hy

    pub height_inside : {x : ℕ} → x < w → rows + y * (2 + 4 * w) + (2 + 4 * x) + 4 ≤ length s
    height_inside hx = omega (arith, f.whole, rows_end w h y hy)

module _ (s : List ℕ) (rows w : ℕ) where
  pub heights_length : (h : ℕ) → length (heights_at s rows w h) ≡ w * h
  unfolding heights_at
  heights_length h = length_tabulate (cell_height s rows w) (w * h)

  -- one row more of the map
  pub rows_more : (y : ℕ) {old now row : List Float} → Filling (cell_height s rows w) (y * w) old now → y * w + w ≤ length old → row ≡ row_heights s rows w y
      → Filling (cell_height s rows w) ((y + 1) * w) old (put_mid (y * w) (y * w + w - y * w) now row)
  unfolding row_heights
  rows_more y p inside e = stored_row_at (height_at s rows w) w y p inside e

  -- the test of a height of the stream is the test of its cell
  pub height_is : (h : ℕ) {x y : ℕ} → x < w → y < h → {v : Float} → v ≡ height_at s rows w x y → {b : Bool} → b ≡ finite v
      → b ≡ finite (get_or (heights_at s rows w h) (cell_of w x y) nan)
  unfolding heights_at
  height_is h {x} {y} hx hy e g =
      g
      ∙ ap finite
      (e
      ∙ sym (ap₂ (height_at s rows w) (column_cell w x y hx) (row_cell w x y hx))
      ∙ sym (get_d_tabulate (cell_height s rows w) (w * h) (cell_of w x y) nan (cell_lt w x y hx h hy)))

  -- a row whose heights are all finite is behind the search
  pub row_sought : (h : ℕ) {y : ℕ} → y < h → Sought w (heights_at s rows w h) 0 y → {b : Bool} → b ≡ all_finite (row_heights s rows w y) → b ≡ true
      → Sought w (heights_at s rows w h) 0 (y + 1)
  unfolding row_heights
  row_sought h {y} hy p e t = record { cells = record { each = λ i l. go i l (dec_lt i (y * w)) } }
    where
      height_finite : (x : ℕ) → x < w → finite (height_at s rows w x y) ≡ true
      height_finite x hx =
          let f : ℕ → Float = λ x. height_at s rows w x y in
          ap finite (sym (get_d_tabulate f w x nan hx)) ∙ all_at (tabulate w f) (sym e ∙ t) x (omega (arith, length_tabulate f w))

      go : (i : ℕ) → i < cell_of w 0 (y + 1) → Dec (i < y * w) → finite (get_or (heights_at s rows w h) i nan) ≡ true
      go i l (yes before) = p.cells.each i (omega arith)
      go i l (no behind) =
          let x : ℕ = i - y * w in
          let hx : x < w = omega arith in
          let same : cell_of w x y ≡ i = omega arith in
          subst (λ (k : ℕ). finite (get_or (heights_at s rows w h) k nan) ≡ true) same (sym (height_is h hx hy refl refl) ∙ height_finite x hx)
