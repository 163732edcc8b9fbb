-- The run on its working grid, and the whole call: what its parts ask follows from what they are given, and its ends are the run's.
use Rattle.std.specs.declared.result.Result.TheVariants.{Ok}
use Rattle.answers.specs.Outcome.{Answer}
use Prim.Native.Nat.{ℕ, ◌*◌, ◌≤◌, min}
use mathlib.Core.Path.{◌≡◌, sym, ap, ap₂, ◌∙◌, subst}
use mathlib.Core.Bool.{Bool, true, ◌&&◌}
use mathlib.Core.List.{List}
use native.Mathlib.Omega.{arith}
use lib.ListN.{length}
use lib.Dec.{eqb}
use lib.Ieee.{Float}
use Rattle.answers.specs.Outcome.{Outcome, answer_of}
use Rattle.grid.specs.declared.Sides.{Sides}
use Rattle.resample.specs.WorkSize.{Within, work_size}
use Rattle.thermal_erosion.specs.declared.ThermalParams.{ThermalParams}
use Rattle.upsample.specs.Samples.{as_source}
use Rattle.run_machine.specs.Plan.{thermal_passes, thermal_params}
use Rattle.run_machine.specs.Run.{slide_course, thermal_course, run_on, thermal_run}
use Rattle.run_settings.specs.Refusals.{bad_thermal}
use Rattle.run_settings.specs.declared.ThermalSettings.{ThermalSettings}
use Rattle.run_machine.proofs.PlanLaws.{Counted, thermal_passes_lem}
use Rattle.run_settings.specs.Accepted.{refusal_on, AcceptedRun}
use Rattle.run_settings.proofs.RefusalLaws.{accepted_by, decided_by, thermal_iterations}
use Rattle.run_plans.proofs.InputLaws.{within_range, within_cells, own_cells, accepted_within}
use Rattle.run_parts.specs.Reached.{Reach, whole_run}
use Rattle.run_parts.specs.Ending.{Answered}
use Rattle.answers.specs.declared.RunAnswer.{RunAnswer}
use Rattle.run_parts.proofs.ReachedLaws.{worked}
use Rattle.run_parts.proofs.EndingLaws.{done_accepts, done_keeps, ending_ran}
use Rattle.run_parts.proofs.WholeLaws.{whole_run_lem}
use Rattle.thermal_run.specs.ThermalRun.{ThermalScratch, thermal_input_refusal, ThermalRun, ThermalSlides, ThermalReduces, ThermalErodes}

module _ {w h dw dh : ℕ} {map small eroded copy : ℕ} where
  module _ (e : ThermalErodes w h dw dh map small eroded copy) where
    -- the first working cells of the scratch slices
    pub small_room : dw * dh ≤ small
    small_room = omega (arith, within_cells e.sides, e.averages)

    pub eroded_room : dw * dh ≤ eroded
    eroded_room = omega (arith, within_cells e.sides, e.changed)

    pub copy_room : dw * dh ≤ copy
    copy_room = omega (arith, within_cells e.sides, e.copied)

    -- on the map
    pub erodes_slides : {t : Bool} {k : ℕ} → t ≡ (eqb dw w && eqb dh h) → t ≡ true → k ≡ dw * dh → ThermalSlides dw dh map k
    erodes_slides f t k = record { sides = within_range e.sides; heights = own_cells e.sides f t e.heights; copied = k }

    -- on the averages
    pub erodes_reduces : {a b d : ℕ} → a ≡ dw * dh → b ≡ dw * dh → d ≡ dw * dh → ThermalReduces w h dw dh map a b d
    erodes_reduces a b d =
        record { sides = e.sides; heights = e.heights; averages = a; changed = b; copied = d }

-- the whole call
module _ (w h : ℕ) (conf : ThermalSettings) (stop : ℕ) (map small eroded copy : List Float) where
  abbrev scratch : ThermalScratch
  scratch = record { small = small; eroded = eroded; copy = copy }

  abbrev outcome : Outcome (Unit {0})
  outcome = thermal_input_refusal w h conf map scratch

  -- by the test of the settings and the length of the shortest scratch slice
  pub decided : {o : Outcome (Unit {0})} {bad : Bool} {scratch k : ℕ} → o ≡ refusal_on w h bad map scratch → bad ≡ bad_thermal conf
      → scratch ≡ min (length small) k → k ≡ min (length eroded) (length copy) → o ≡ outcome
  decided e b s k = decided_by w h map e b (s ∙ ap (min (length small)) k)

  module _ {early : Answer} (f : answer_of early ≡ outcome) (e : early ≡ Ok tt) where
    pub run_accepted : AcceptedRun w h (bad_thermal conf) map (min (length small) (min (length eroded) (length copy)))
    run_accepted = accepted_by w h (bad_thermal conf) map _ (done_accepts f e)

    module _ {work : Sides} (g : work ≡ work_size w h conf.work_res) where
      pub run_within : Within w h work.w work.h
      run_within = accepted_within run_accepted conf.work_res g

      pub run_erodes : ThermalErodes w h work.w work.h (length map) (length small) (length eroded) (length copy)
      run_erodes =
          let a = run_accepted in
          record {
            sides = run_within;
            heights = a.cells;
            averages = omega (arith, a.room);
            changed = omega (arith, a.room);
            copied = omega (arith, a.room);
          }

      module _ {passes : ℕ} (i : passes ≡ thermal_passes work.w work.h conf) where
        -- and the number of passes is one of a plan
        pub counted : Counted 32768 passes
        counted =
            let s = within_range run_within in
            subst (Counted 32768) (sym i) (thermal_passes_lem work.w work.h s.wide s.high conf.iterations (thermal_iterations conf run_accepted.settings))

        module _ {params : ThermalParams} (p : params ≡ thermal_params work.w work.h conf) where
          whole_is : run_on as_source w h (slide_course work.w work.h params passes stop) map ≡ thermal_run w h conf stop map
          unfolding thermal_run
          whole_is =
              ap₂ (λ (params : ThermalParams) (passes : ℕ). run_on as_source w h (slide_course work.w work.h params passes stop) map) p i
              ∙ ap (λ (work : Sides). run_on as_source w h (thermal_course work.w work.h conf stop) map) g

          pub run_done : {r : Reach} {a : RunAnswer} (map' small' eroded' copy' : List Float) → Answered r a
              → worked map' r ≡ whole_run w h (slide_course work.w work.h params passes stop) map
              → ThermalRun w h conf stop map scratch a map' (record { small = small'; eroded = eroded'; copy = copy' })
          run_done {r} {a} map' small' eroded' copy' s t =
              let ran = whole_run_lem w h (slide_course work.w work.h params passes stop) map t run_within.dh_low (omega arith) in
              record {
                ended = ending_ran r a outcome map map' (thermal_run w h conf stop map) s (ran ∙ whole_is) (done_accepts f e);
                kept = done_keeps f e;
              }
