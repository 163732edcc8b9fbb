-- The loop over the rows of the map, whether it stores the sums or only tests them.
use Prim.Native.Nat.{ℕ, ◌+◌, ◌-◌, ◌*◌, ◌≤◌, ◌<◌}
use mathlib.Core.Path.{◌≡◌, refl, sym, ap, ◌∙◌}
use mathlib.Core.Bool.{Bool, true, false, true≢false, false≢true}
use mathlib.Core.List.{List}
use lib.ListN.{length, take, drop}
use lib.Ieee.{Float}
use borrow.Rule.Slice.PartMut.{put_mid, put_same}
use Rattle.loops.specs.Loops.{tabulate}
use Rattle.loops.proofs.TestLaws.{clash}
use Rattle.loops.proofs.FillLaws.{Filling, filling_start, filling_rows}
use Rattle.grid.specs.Heights.{all_finite}
use Rattle.bilinear.specs.Samples.{as_source}
use Rattle.upsample_rows.specs.Rows.{reduced_column, way_of, Mixes}
use Rattle.upsample.specs.Samples.{summed_row, Summed, added_at, added_of}
use Rattle.upsample.proofs.FiniteLaws.{Finites, finites_start, row_more, row_not, rows_all}
use Rattle.upsample.proofs.RowLaws.{row_tested, rows_more}

-- the first i values are stored, or found finite and the list kept
pub record Summing (store : Bool) (f : ℕ → Float) (i : ℕ) (old now : List Float) : Type 0 where
  pub stored : store ≡ true → Filling f i old now
  pub tested : store ≡ false → (now ≡ old) × Finites f i

pub summing_start : {store : Bool} {f : ℕ → Float} {old : List Float} (w : ℕ) → Summing store f (0 * w) old old
summing_start w = record { stored = λ _. filling_start w; tested = λ _. (refl, finites_start w) }

pub summing_done : (store : Bool) {f : ℕ → Float} (w : ℕ) {h y : ℕ} {old now : List Float} → Summing store f (y * w) old now → length old ≡ w * h → y ≤ h → h ≤ y
    → Summed store (tabulate (w * h) f) old true now
summing_done true w s e a b = record { heights = filling_rows w (s.stored refl) e b; good = refl }
summing_done false {f} w {h} {y} s e a b = record { heights = (s.tested refl).0; good = sym (rows_all f w h y (s.tested refl).1 a b) }

-- a row put back as it was keeps the map
kept : (a k : ℕ) {map now row : List Float} → now ≡ map → row ≡ take k (drop a now) → put_mid a k now row ≡ map
kept a k {now = now} e r = ap (put_mid a k now) r ∙ put_same a k now ∙ e

module _ (map : List Float) (w h : ℕ) (delta : List Float) (dw dh y : ℕ) (inside : y * w + w ≤ length map) {now : List Float} {j : ℕ} {dy : Float} {north south : List Float}
    (m : Mixes delta dw dh w j north south) (p : j ≡ reduced_column h dh y) (q : dy ≡ way_of h dh y) (l : y < h) where
  -- the test of a row is that of the map's sums
  row_test : {t : Bool} → now ≡ map → t ≡ all_finite (summed_row (take (y * w + w - y * w) (drop (y * w) now)) north south dy)
      → t ≡ all_finite (tabulate w (λ x. added_at as_source map w h delta dw dh (y * w + x)))
  row_test {t} e g =
      row_tested map w h delta dw dh y inside m p q t
      (g ∙ ap (λ (k : List Float). all_finite (summed_row (take (y * w + w - y * w) (drop (y * w) k)) north south dy)) e)

  -- one row more
  pub summing_more : (store : Bool) {row : List Float} {t : Bool} → Summing store (added_at as_source map w h delta dw dh) (y * w) map now
      → Summed store (summed_row (take (y * w + w - y * w) (drop (y * w) now)) north south dy) (take (y * w + w - y * w) (drop (y * w) now)) t row → t ≡ true
      → Summing store (added_at as_source map w h delta dw dh) ((y + 1) * w) map (put_mid (y * w) (y * w + w - y * w) now row)
  summing_more true s r e = record { stored = λ _. rows_more map w h delta dw dh y inside (s.stored refl) m p q r.heights; tested = λ z. absurd (true≢false z) }
  summing_more false s r e =
      let k = s.tested refl in
      record {
        stored = λ z. absurd (false≢true z);
        tested = λ _. (kept (y * w) (y * w + w - y * w) k.0 r.heights, row_more (added_at as_source map w h delta dw dh) w h y l k.1 (sym (row_test k.0 r.good) ∙ e));
      }

  -- a row with a sum that is not finite
  pub summing_not : (store : Bool) {row : List Float} {t : Bool} → Summing store (added_at as_source map w h delta dw dh) (y * w) map now
      → Summed store (summed_row (take (y * w + w - y * w) (drop (y * w) now)) north south dy) (take (y * w + w - y * w) (drop (y * w) now)) t row → t ≡ false
      → Summed store (added_of as_source map w h delta dw dh) map false (put_mid (y * w) (y * w + w - y * w) now row)
  unfolding added_of
  summing_not true s r e = absurd (clash r.good e)
  summing_not false s r e = record {
    heights = kept (y * w) (y * w + w - y * w) (s.tested refl).0 r.heights;
    good = sym (row_not (added_at as_source map w h delta dw dh) w h y l (sym (row_test (s.tested refl).0 r.good) ∙ e));
  }
