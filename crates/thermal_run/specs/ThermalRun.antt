-- What gen_thermal_erosion promises of its answer, the map and the scratch slices, and what its parts require.
use Rattle.std.specs.Prelude.{ℕ, ◌*◌, ◌≤◌, min, ◌≡◌, false, List, length, Float}
use Rattle.answers.specs.Outcome.{Outcome, given}
use Rattle.grid.specs.Sides.{InRange}
use Rattle.resample.specs.WorkSize.{Within}
use Rattle.run_machine.specs.Run.{thermal_run}
use Rattle.run_settings.specs.Refusals.{bad_thermal}
use Rattle.run_settings.specs.declared.ThermalSettings.{ThermalSettings}
use Rattle.run_settings.specs.Accepted.{refusal_on}
use Rattle.run_parts.specs.Ending.{ending_of, ended_with}
use Rattle.answers.specs.declared.RunAnswer.{RunAnswer}

-- the scratch slices lent to a thermal run
pub record ThermalScratch : Type 0 where
  pub small : List Float
  pub eroded : List Float
  pub copy : List Float

-- the refusals of the input; of the scratch slices the shortest is tested
abbrev pub thermal_input_refusal : ℕ → ℕ → ThermalSettings → List Float → ThermalScratch → Outcome (Unit {0})
thermal_input_refusal w h conf map s = refusal_on w h (bad_thermal conf) map (min (length s.small) (min (length s.eroded) (length s.copy)))

-- The answer, the counts and the map are those of the run of document 01, or of the refusal; a refused input leaves
-- scratch as it was.
pub record ThermalRun (w h : ℕ) (conf : ThermalSettings) (stop : ℕ) (map : List Float) (scratch : ThermalScratch) (r : RunAnswer)
    (map' : List Float) (scratch' : ThermalScratch) : Type 0 where
  pub ended : ended_with r map' ≡ ending_of (thermal_input_refusal w h conf map scratch) map (thermal_run w h conf stop map)
  pub kept : given (thermal_input_refusal w h conf map scratch) ≡ false → scratch' ≡ scratch

-- what the passes require of their grid and the lengths of the map and its copy
pub record ThermalSlides (w h map copy : ℕ) : Type 0 where
  pub sides : InRange w h
  pub heights : map ≡ w * h
  pub copied : copy ≡ w * h

-- what a run on the reduced dw × dh grid requires of its sides and the lengths of its slices
pub record ThermalReduces (w h dw dh map small eroded copy : ℕ) : Type 0 where
  pub sides : Within w h dw dh
  pub heights : map ≡ w * h
  pub averages : small ≡ dw * dh
  pub changed : eroded ≡ dw * dh
  pub copied : copy ≡ dw * dh

-- what a run requires of its sides and the lengths of its slices, on the map or on a reduced dw ×
-- dh grid
pub record ThermalErodes (w h dw dh map small eroded copy : ℕ) : Type 0 where
  pub sides : Within w h dw dh
  pub heights : map ≡ w * h
  pub averages : w * h ≤ small
  pub changed : w * h ≤ eroded
  pub copied : w * h ≤ copy
