-- The refusals of a whole run, with the cell that refusal 5 carries, where scratch slices are lent besides the map.
use Rattle.std.specs.Prelude.{ℕ, ◌*◌, ◌≤◌, ◌≡◌, Bool, true, false, not, ◌||◌, cond, List, length, eqb, ltb, Float}
use Rattle.answers.specs.Outcome.{Outcome, gives, refused, refused_at, number_in}
use Rattle.grid.specs.Sides.{bad_sides, InRange}
use Rattle.grid.specs.Heights.{first_not_finite, all_finite}
use Rattle.run_settings.specs.Refusals.{refusal_by}

-- the refusals of a whole run: 1: a side; 3: a map of another length, or a scratch slice shorter than the map, where
-- `scratch` is the length of the shortest; 4: a setting; 5: a height, with the first cell whose height is not finite
abbrev pub refusal_on : ℕ → ℕ → Bool → List Float → ℕ → Outcome (Unit {0})
refusal_on w h bad map scratch =
    cond (bad_sides w h) (refused 1)
    (cond (not (eqb (length map) (w * h)) || ltb scratch (w * h)) (refused 3)
    (cond bad (refused 4) (cond (all_finite map) (gives tt) (refused_at 5 (first_not_finite map)))))

-- With enough scratch a whole run refuses exactly what specs/Refusals.antt defines, which demand 3 speaks of.
abbrev pub SameRefusal : Type 0
SameRefusal = (w h : ℕ) (bad : Bool) (map : List Float) (scratch : ℕ) → w * h ≤ scratch → number_in (refusal_on w h bad map scratch) ≡ refusal_by w h bad map

-- what is known of an accepted input: sides and settings in range, slices long enough, heights finite
pub record AcceptedRun (w h : ℕ) (bad : Bool) (map : List Float) (scratch : ℕ) : Type 0 where
  pub sides : InRange w h
  pub cells : length map ≡ w * h
  pub room : w * h ≤ scratch
  pub settings : bad ≡ false
  pub finites : all_finite map ≡ true
