-- Document 02, card 5: the pass over eight thresholds in scan order, and what the public call `slide_pass_over` answers.
use Rattle.std.specs.Prelude.{ℕ, ◌*◌, ◌≡◌, Bool, false, not, ◌||◌, cond, List, [], ◌∷◌, length, eqb, Float}
use Rattle.std.specs.Float.{binary32}
use Rattle.std.specs.Float.Ieee.{of_bits}
use Rattle.std.specs.Float.Ieee.Scale.{finite}
use Rattle.answers.specs.Outcome.{refused, refused_at, answer_of, outside_of}
use Rattle.grid.specs.Sides.{bad_sides}
use Rattle.grid.specs.Heights.{first_not_finite, all_finite}
use Rattle.generators.specs.declared.Progress.{Progress}
use Rattle.grid_spacing.specs.Distances.{square_distances}
use Rattle.talus.specs.Talus.{prepared_of, table_of}
use Rattle.thermal_erosion.specs.SlidePass.{Pass, rows_of, bad_marks, pass_answer}
use Rattle.thermal_erosion.specs.declared.PassMarks.{PassMarks}
use Rattle.thermal_erosion.specs.declared.ThermalParams.{ThermalParams}
use Rattle.thermal_erosion.specs.declared.Slid.{Slid}

-- the whole pass over eight thresholds in scan order: each direction's excess is taken over its own
abbrev pub pass_over : ℕ → ℕ → List Float → Float → Float → List Float → Float → Float → ℕ → Progress → Pass
pass_over w h eight strength water hs from to stop m = rows_of w h (table_of eight) strength water hs from to stop h m

-- the eight thresholds of document 01's parameters, between square cells
abbrev pub prepared : ThermalParams → List Float
prepared p = prepared_of p.threshold square_distances

-- refusal 4 of all but the thresholds: strength 0 to 1, water level finite, and the stop marks in their ranges
abbrev pub bad_rest : Float → Float → Float → Float → Progress → Bool
bad_rest strength water from to m =
    outside_of strength (of_bits binary32 0) (of_bits binary32 0x3f80_0000) || (not (finite water) || bad_marks from to m)

-- the threshold of `slide_pass` lies outside 0 to 16
abbrev pub bad_threshold : Float → Bool
bad_threshold t = outside_of t (of_bits binary32 0) (of_bits binary32 0x4180_0000)

-- 96, the greatest of eight thresholds
abbrev pub most_of_eight : Float
most_of_eight = of_bits binary32 0x42c0_0000

-- one of eight thresholds lies outside 0 to 96
abbrev pub bad_of_eight : Float → Bool
bad_of_eight t = outside_of t (of_bits binary32 0) most_of_eight

-- any threshold of a list does
unfoldable pub bad_thresholds : List Float → Bool
bad_thresholds [] = false
bad_thresholds (t ∷ ts) = bad_of_eight t || bad_thresholds ts

-- refusal 4 of `slide_pass_over`: each of the eight thresholds 0 to 96, and the rest
abbrev pub bad_over : List Float → Float → Float → Float → Float → Progress → Bool
bad_over eight strength water from to m = bad_thresholds eight || bad_rest strength water from to m

-- the first refusal that applies, else `then`: 1: a side; 3: a length; 4: a setting, if `bad`; 5: a height.
-- `number n` is what refusal n gives, `at n cell` what one gives that carries a cell
abbrev pub pass_refusal : {A : Type 0} → ℕ → ℕ → List Float → ℕ → Bool → (ℕ → A) → (ℕ → ℕ → A) → A → A
pass_refusal w h hs len bad number at then =
    cond (bad_sides w h) (number 1)
    (cond (not (eqb (length hs) (w * h)) || not (eqb len (w * h))) (number 3)
    (cond bad (number 4) (cond (all_finite hs) then (at 5 (first_not_finite hs)))))

-- What a call promises of its answer r, of the record that it hands back, and of its result slice, `old` before and
-- `new` after it: on refusals 1 to 5 the record as given and the slice as it was, else those of the pass s. 4 applies
-- if `bad`.
module _ (w h : ℕ) (hs : List Float) (bad : Bool) (given : Progress) (old : List Float) (s : Pass) where
  abbrev unless : {A : Type 0} → (ℕ → A) → (ℕ → ℕ → A) → A → A
  unless = pass_refusal w h hs (length old) bad

  pub record PassMade (r : Slid) (new : List Float) : Type 0 where
    pub answer : answer_of r.answer ≡ unless refused refused_at (pass_answer s)
    pub handed : r.progress ≡ unless (λ _. given) (λ _ _. given) s.marks
    pub heights : new ≡ unless (λ _. old) (λ _ _. old) s.out

-- the promise of `slide_pass_over`, with eight thresholds in scan order in the place of the one of `ThermalParams`
abbrev pub SlideOver : ℕ → ℕ → List Float → List Float → Float → Float → PassMarks → List Float → Slid → List Float → Type 0
SlideOver w h hs eight strength water by old =
    PassMade w h hs (bad_over eight strength water by.from by.to by.marks) by.marks old
    (pass_over w h eight strength water hs by.from by.to by.stop by.marks)
