-- One talus pass with its stop marks, and what the public call `slide_pass` answers.
use Rattle.std.specs.Prelude.{ℕ, ◌+◌, ◌*◌, ◌^◌, ◌≤◌, ◌<◌, ◌≡◌, Bool, not, ◌||◌, cond, List, length, eqb, Float}
use Rattle.std.specs.Float.{binary32}
use Rattle.std.specs.Float.Ieee.{of_bits, add, sub, mul, div}
use Rattle.std.specs.Float.Ieee.Scale.{finite}
use Rattle.floats.specs.Stand.{whole}
use Rattle.answers.specs.Outcome.{Outcome, gives, refused, refused_at, answer_of, outside_of}
use Rattle.loops.specs.Loops.{turns}
use Rattle.grid.specs.Sides.{bad_sides}
use Rattle.grid.specs.Heights.{first_not_finite, all_finite}
use Rattle.generators.specs.Marks.{report_of, bad_report}
use Rattle.generators.specs.declared.Progress.{Progress}
use Rattle.grid_spacing.specs.Distances.{square_distances}
use Rattle.talus.specs.Talus.{thresholds_of, slide_row}
use Rattle.thermal_erosion.specs.declared.ThermalParams.{ThermalParams}
use Rattle.thermal_erosion.specs.declared.PassMarks.{PassMarks}
use Rattle.thermal_erosion.specs.declared.Slid.{Slid}

-- the fraction after row y: from + (to - from) × y / h
abbrev pub fraction_of : Float → Float → ℕ → ℕ → Float
fraction_of from to h y =
    add binary32 from (div binary32 (mul binary32 (sub binary32 to from) (whole y)) (whole h))

-- a pass under way: the copy, with the rows done so far, and the record of the stop marks
pub record Pass : Type 0 where
  pub out : List Float
  pub marks : Progress

module _ (w h : ℕ) (ts : List Float) (strength water : Float) (hs : List Float) (from to : Float) (stop : ℕ) where
  -- one row and the question after it; a stopped pass goes no further
  abbrev pub pass_row : ℕ → Pass → Pass
  pass_row y s =
      cond s.marks.stopped s
      (record { out = slide_row w h ts hs strength water y s.out; marks = report_of s.marks (fraction_of from to h y) stop })

  -- the first n rows
  unfoldable pub rows_of : ℕ → Progress → Pass
  unfolding turns slide_row
  rows_of n m = turns n pass_row (record { out = hs; marks = m })

-- what a pass requires of its w × h grid, of the lengths of the map and the copy, and of the number of questions asked
-- before it: each row may ask one more
pub record RowsReady (w h map copy asked : ℕ) : Type 0 where
  pub some : 1 ≤ w
  pub wide : w ≤ 4096
  pub high : h ≤ 4096
  pub heights : map ≡ w * h
  pub copied : copy ≡ map
  pub questions : asked + h < 2 ^ 32

-- the whole pass of document 01's parameters, between square cells
abbrev pub pass_of : ℕ → ℕ → ThermalParams → List Float → Float → Float → ℕ → Progress → Pass
pass_of w h p hs from to stop m = rows_of w h (thresholds_of p.threshold square_distances) p.strength p.water_level hs from to stop h m

-- refusal 4 of the stop marks of a pass: ends of p 0 to 1, last -1 to 1, asked at most 2^31; all but the first end are
-- tested as in a report
abbrev pub bad_marks : Float → Float → Progress → Bool
bad_marks from to m = outside_of from (of_bits binary32 0) (of_bits binary32 0x3f80_0000) || bad_report m to

-- refusal 4: threshold 0 to 16, strength 0 to 1, water level finite, and the stop marks in their ranges
abbrev pub bad_pass : ThermalParams → Float → Float → Progress → Bool
bad_pass p from to m =
    let zero = of_bits binary32 0 in
    outside_of p.threshold zero (of_bits binary32 0x4180_0000)
    || (outside_of p.strength zero (of_bits binary32 0x3f80_0000) || (not (finite p.water_level) || bad_marks from to m))

-- the first refusal that applies, else `then`: 1: a side; 3: a length; 4: a setting; 5: a height. `number n` is what
-- refusal n gives, `at n cell` what one gives that carries a cell
abbrev pub slide_refusal : {A : Type 0} → ℕ → ℕ → List Float → ℕ → ThermalParams → Float → Float → Progress → (ℕ → A) → (ℕ → ℕ → A) → A → A
slide_refusal w h hs len p from to m number at then =
    cond (bad_sides w h) (number 1)
    (cond (not (eqb (length hs) (w * h)) || not (eqb len (w * h))) (number 3)
    (cond (bad_pass p from to m) (number 4) (cond (all_finite hs) then (at 5 (first_not_finite hs)))))

-- the answer of an accepted pass: 21 where it is stopped, tested before 22; 22 where a height is not finite
abbrev pub pass_answer : Pass → Outcome (Unit {0})
pass_answer s = cond s.marks.stopped (refused 21) (cond (all_finite s.out) (gives tt) (refused 22))

-- r and `new` are what the pass s gives: its answer, the record that it reached, and the heights of its copy
pub record Passed (s : Pass) (r : Slid) (new : List Float) : Type 0 where
  pub answer : answer_of r.answer ≡ pass_answer s
  pub handed : r.progress ≡ s.marks
  pub heights : new ≡ s.out

-- What `slide_pass` promises of its answer r, of the record that it hands back, and of its result slice, `old` before
-- and `new` after it: on refusals 1 to 5 the record as given and the slice as it was, else those of the pass.
module _ (w h : ℕ) (hs : List Float) (p : ThermalParams) (by : PassMarks) (old : List Float) where
  abbrev whole_pass : Pass
  whole_pass = pass_of w h p hs by.from by.to by.stop by.marks

  abbrev unless : {A : Type 0} → (ℕ → A) → (ℕ → ℕ → A) → A → A
  unless = slide_refusal w h hs (length old) p by.from by.to by.marks

  pub record SlideMade (r : Slid) (new : List Float) : Type 0 where
    pub answer : answer_of r.answer ≡ unless refused refused_at (pass_answer whole_pass)
    pub handed : r.progress ≡ unless (λ _. by.marks) (λ _ _. by.marks) whole_pass.marks
    pub heights : new ≡ unless (λ _. old) (λ _ _. old) whole_pass.out
