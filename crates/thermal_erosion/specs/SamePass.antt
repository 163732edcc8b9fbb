-- Document 02, card 5: eight thresholds pass exactly in their range, and on the eight that `slide_pass` prepares of a
-- threshold in 0 to 16, `slide_pass_over` is `slide_pass`.
use Rattle.std.specs.Prelude.{ℕ, ◌<◌, ◌≡◌, true, false, List, length, get_or, Float}
use Rattle.std.specs.Float.{nan, binary32}
use Rattle.std.specs.Float.Ieee.{of_bits, le}
use Rattle.thermal_erosion.specs.SlidePass.{SlideMade}
use Rattle.thermal_erosion.specs.OverPass.{prepared, bad_threshold, bad_thresholds, SlideOver}
use Rattle.thermal_erosion.specs.declared.PassMarks.{PassMarks}
use Rattle.thermal_erosion.specs.declared.ThermalParams.{ThermalParams}
use Rattle.thermal_erosion.specs.declared.Slid.{Slid}

-- a threshold lies in 0 to 96: no NaN does, both zeros do
pub record InRange (t : Float) : Type 0 where
  pub least : le (of_bits binary32 0) t ≡ true
  pub most : le t (of_bits binary32 0x42c0_0000) ≡ true

-- no threshold of a list is refused exactly if every one of them lies in 0 to 96
pub record TestsEach (ts : List Float) : Type 0 where
  pub sound : bad_thresholds ts ≡ false → (i : ℕ) → i < length ts → InRange (get_or ts i nan)
  pub complete : ((i : ℕ) → i < length ts → InRange (get_or ts i nan)) → bad_thresholds ts ≡ false

-- 'Each 0 to 96, else 4' is two-way, whatever the thresholds.
abbrev pub EachTested : Type 0
EachTested = (ts : List Float) → TestsEach ts

-- The eight prepared of a threshold in 0 to 16 lie in 0 to 96.
abbrev pub PreparedInRange : Type 0
PreparedInRange = (p : ThermalParams) → bad_threshold p.threshold ≡ false → bad_thresholds (prepared p) ≡ false

-- an answer, record and slice meet the promise of `slide_pass` exactly if they meet that of `slide_pass_over` on the
-- eight prepared
pub record SamePromise (w h : ℕ) (hs : List Float) (p : ThermalParams) (by : PassMarks) (old : List Float) (r : Slid) (new : List Float) : Type 0 where
  pub over : SlideMade w h hs p by old r new → SlideOver w h hs (prepared p) p.strength p.water_level by old r new
  pub back : SlideOver w h hs (prepared p) p.strength p.water_level by old r new → SlideMade w h hs p by old r new

-- The eight prepared of a threshold in 0 to 16 lie in 0 to 96, and for every input with such a threshold the two calls
-- promise the same: the refusals 1, 3, 4, 5 with its cell, 21 and 22, the record and the heights.
abbrev pub SamePass : Type 0
SamePass =
    PreparedInRange
    × ((w h : ℕ) (hs : List Float) (p : ThermalParams) (by : PassMarks) (old : List Float) (r : Slid) (new : List Float)
    → bad_threshold p.threshold ≡ false
    → SamePromise w h hs p by old r new)
