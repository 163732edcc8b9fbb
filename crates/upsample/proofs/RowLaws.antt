-- One row of the sum, and the rows of the map together.
use Prim.Native.Nat.{ℕ, ◌+◌, ◌-◌, ◌*◌, ◌≤◌, ◌<◌}
use mathlib.Core.Path.{◌≡◌, sym, ap, ap₂, ◌∙◌}
use mathlib.Core.Bool.{Bool}
use mathlib.Core.List.{List}
use native.Mathlib.Omega.{arith}
use lib.ListN.{length, get_or, take, drop, length-take, length-drop}
use lib.Seq.{get_or-take, get_or-drop}
use lib.Arith.{digits_div, digits_mod}
use lib.Ieee.{Float, nan, binary32, add}
use lib.Ieee.Fits.{add-fits}
use borrow.Rule.Slice.PartMut.{put_mid}
use Rattle.grid.specs.Heights.{all_finite}
use Rattle.loops.specs.Loops.{tabulate}
use Rattle.loops.proofs.TableLaws.{tabulate_same}
use Rattle.loops.proofs.FillLaws.{Filling, filling_next}
use Rattle.resample.proofs.FillLaws.{table_values}
use Rattle.loops.proofs.RowFillLaws.{filling_drop, stored_row}
use Rattle.resample.specs.Blocks.{Values}
use Rattle.bilinear.specs.Samples.{as_source, between, bilinear_at, bilinear_of}
use Rattle.upsample_rows.specs.Rows.{centre_of, reduced_column, way_of, Mixes}
use Rattle.upsample.specs.Samples.{summed_row, added_at, added_of}

-- the sum at column x of a row
abbrev pub sum_at : List Float → List Float → List Float → Float → ℕ → Float
sum_at row north south dy x = add binary32 (get_or row x nan) (between dy (get_or north x nan) (get_or south x nan))

-- the sum that a loop stores at column x, worked out from the row as it then stands
pub sum_next : (north south : List Float) (dy : Float) {old now : List Float} {x : ℕ} {r : Float} → Filling (sum_at old north south dy) x old now
    → r ≡ between dy (get_or north x nan) (get_or south x nan) → add binary32 (get_or now x nan) r ≡ sum_at old north south dy x
sum_next north south dy f e = ap₂ (add binary32) (filling_next f nan) e

module _ (map : List Float) (w h : ℕ) (delta : List Float) (dw dh y : ℕ) (inside : y * w + w ≤ length map) where
  -- row y of the map
  abbrev part : List Float
  part = take (y * w + w - y * w) (drop (y * w) map)

  part_length : length part ≡ w
  part_length = simp (length-take, length-drop) (omega arith)

  part_at : (x : ℕ) → x < w → get_or part x nan ≡ get_or map (y * w + x) nan
  part_at x l = get_or-take (y * w + w - y * w) (drop (y * w) map) x nan (omega arith) ∙ get_or-drop (y * w) map x nan

  module _ {j : ℕ} {dy : Float} {north south : List Float} (m : Mixes delta dw dh w j north south) (p : j ≡ reduced_column h dh y) (q : dy ≡ way_of h dh y) where
    -- the sample at column x lies between the reduced rows
    sample_at : (x : ℕ) → x < w → between dy (get_or north x nan) (get_or south x nan) ≡ bilinear_of as_source delta dw dh (centre_of w dw x) (centre_of h dh y)
    unfolding bilinear_of
    sample_at x l =
        ap₂ (between dy) (m.northern.at x l) (m.southern.at x l)
        ∙ ap₂ (λ (k : ℕ) (d : Float). bilinear_at as_source delta dw dh (reduced_column w dw x) (way_of w dw x) k d) p q

    -- the row's sums are those of the whole map
    pub row_sums : summed_row part north south dy ≡ tabulate w (λ x. added_at as_source map w h delta dw dh (y * w + x))
    unfolding summed_row
    row_sums =
        ap (λ (n : ℕ). tabulate n (sum_at part north south dy)) part_length
        ∙ tabulate_same (sum_at part north south dy) (λ x. added_at as_source map w h delta dw dh (y * w + x)) w
        (λ x l. ap₂ (add binary32) (part_at x l) (sample_at x l)
        ∙ ap₂ (λ (a b : ℕ). add binary32 (get_or map (y * w + x) nan) (bilinear_of as_source delta dw dh (centre_of w dw a) (centre_of h dh b))) (sym (digits_mod y l)) (sym (digits_div y l)))

    pub row_tested : (t : Bool) → t ≡ all_finite (summed_row part north south dy) → t ≡ all_finite (tabulate w (λ x. added_at as_source map w h delta dw dh (y * w + x)))
    row_tested t r = r ∙ ap all_finite row_sums

module _ (map : List Float) (w h : ℕ) (delta : List Float) (dw dh y : ℕ) (inside : y * w + w ≤ length map) {now row : List Float} where
  -- one row more of the sum
  pub rows_more : {j : ℕ} {dy : Float} {north south : List Float} → Filling (added_at as_source map w h delta dw dh) (y * w) map now
      → Mixes delta dw dh w j north south → j ≡ reduced_column h dh y → dy ≡ way_of h dh y
      → row ≡ summed_row (take (y * w + w - y * w) (drop (y * w) now)) north south dy
      → Filling (added_at as_source map w h delta dw dh) ((y + 1) * w) map (put_mid (y * w) (y * w + w - y * w) now row)
  rows_more {j} {dy} {north} {south} f m p q r =
      stored_row w y f inside row
      (r ∙ ap (λ (l : List Float). summed_row (take (y * w + w - y * w) l) north south dy) (filling_drop f) ∙ row_sums map w h delta dw dh y inside m p q)

-- the sum is one value for each cell
pub added_values : (map : List Float) (w h : ℕ) (delta : List Float) (dw dh : ℕ) → Values (w * h) (added_of as_source map w h delta dw dh)
unfolding added_of
added_values map w h delta dw dh = table_values (added_at as_source map w h delta dw dh) (λ c. add-fits binary32 _ _) (w * h)
