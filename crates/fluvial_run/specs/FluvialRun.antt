-- What gen_fluvial_erosion promises of its answer, the map and the scratch slices.
use Rattle.std.specs.Prelude.{ℕ, min, ◌≡◌, false, List, Float}
use Rattle.answers.specs.Outcome.{Outcome, given}
use Rattle.float_order.specs.Fit.{Fit}
use Rattle.run_machine.specs.Run.{ours, run_by}
use Rattle.run_settings.specs.Refusals.{bad_fluvial}
use Rattle.run_settings.specs.declared.FluvialSettings.{FluvialSettings}
use Rattle.run_settings.specs.Accepted.{refusal_on}
use Rattle.run_parts.specs.Ending.{ending_of, ended_with}
use Rattle.answers.specs.declared.RunAnswer.{RunAnswer}
use Rattle.fluvial_grid.specs.Grids.{Scratch, scratch_of}

abbrev pub shortest_of : Scratch → ℕ
shortest_of s =
    min (min (min s.small s.eroded) (min s.copy s.area)) (min (min s.order s.recv) (min s.queue s.status))

-- the refusals of the input; of the scratch slices the shortest is tested
abbrev pub fluvial_input_refusal : ℕ → ℕ → FluvialSettings → List Float → Scratch → Outcome (Unit {0})
fluvial_input_refusal w h conf map s = refusal_on w h (bad_fluvial conf) map (shortest_of s)

-- the scratch slices lent to a fluvial run
pub record FluvialScratch : Type 0 where
  pub small : List Float
  pub eroded : List Float
  pub copy : List Float
  pub area : List Float
  pub order : List ℕ
  pub recv : List ℕ
  pub queue : List ℕ
  pub status : List ℕ

abbrev pub lengths_of : FluvialScratch → Scratch
lengths_of s = scratch_of s.small s.eroded s.copy s.area s.order s.recv s.queue s.status

-- The answer, the counts and the map are those of the run of document 01 along the flood's own order, or of the
-- refusal; a refused input leaves scratch as it was. Every value of the lent map is a binary32 value, whatever was
-- lent: the premise `Fit` of demand 3 is true of every slice of f32.
pub record FluvialRun (w h : ℕ) (conf : FluvialSettings) (stop : ℕ) (map : List Float) (scratch : FluvialScratch) (r : RunAnswer)
    (map' : List Float) (scratch' : FluvialScratch) : Type 0 where
  pub ended : ended_with r map' ≡ ending_of (fluvial_input_refusal w h conf map (lengths_of scratch)) map (run_by w h conf stop ours map)
  pub fit : Fit map
  pub kept : given (fluvial_input_refusal w h conf map (lengths_of scratch)) ≡ false → scratch' ≡ scratch
