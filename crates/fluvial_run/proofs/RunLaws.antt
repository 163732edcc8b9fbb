-- The run on its working grid, and the whole call: what its parts ask follows from what they are given, and its ends are the run's.
use Rattle.std.specs.declared.result.Result.TheVariants.{Ok}
use Rattle.answers.specs.Outcome.{Answer}
use Prim.Native.Nat.{ℕ, ◌*◌, ◌≤◌, min}
use mathlib.Core.Path.{◌≡◌, sym, ap, ◌∙◌, subst}
use mathlib.Core.Bool.{Bool}
use mathlib.Core.List.{List}
use native.Mathlib.Nat.{le_trans}
use native.Mathlib.Omega.{arith}
use lib.ListN.{take}
use lib.Seq.{length-take-le}
use lib.Ieee.{Float}
use Rattle.answers.specs.Outcome.{Outcome, answer_of}
use Rattle.float_order.specs.Fit.{Fit}
use Rattle.grid.specs.Sides.{InRange}
use Rattle.grid.specs.declared.Sides.{Sides}
use Rattle.resample.specs.WorkSize.{Within, work_size}
use Rattle.upsample.specs.Samples.{as_source}
use Rattle.run_machine.specs.Plan.{Plan, fluvial_plan}
use Rattle.run_machine.specs.Machine.{Course}
use Rattle.run_machine.specs.Run.{ours, fluvial_course, run_on, run_by}
use Rattle.run_settings.specs.Refusals.{bad_fluvial}
use Rattle.run_machine.specs.Nested.{Bounded}
use Rattle.run_settings.specs.declared.FluvialSettings.{FluvialSettings}
use Rattle.run_machine.proofs.BoundLaws.{fluvial_bounded}
use Rattle.run_settings.specs.Accepted as Input
use Rattle.run_settings.specs.Accepted.{refusal_on}
use Rattle.run_settings.proofs.RefusalLaws.{accepted_by, decided_by, fluvial_iterations}
use Rattle.run_plans.proofs.InputLaws.{within_range, within_cells, accepted_within}
use Rattle.run_parts.specs.Reached.{Reach, whole_run}
use Rattle.run_parts.specs.Ending.{Answered}
use Rattle.answers.specs.declared.RunAnswer.{RunAnswer}
use Rattle.run_parts.proofs.ReachedLaws.{worked}
use Rattle.run_parts.proofs.EndingLaws.{ending_ran, done_accepts, done_keeps}
use Rattle.run_parts.proofs.WholeLaws.{whole_run_lem}
use Rattle.fluvial_loop.specs.Loops.{plan_of, course_by}
use Rattle.fluvial_loop.specs.declared.FluvialPlan.{FluvialPlan}
use Rattle.fluvial_grid.specs.Grids.{Scratch, scratch_of, Erodes}
use Rattle.fluvial_run.specs.FluvialRun.{shortest_of, fluvial_input_refusal, FluvialScratch, lengths_of, FluvialRun}

-- a plan by its parts
pub plan_is : {p : FluvialPlan} (q : Plan) → p.iterations ≡ q.iterations → p.passes ≡ q.passes → p.cuts ≡ q.cuts → p.slides ≡ q.slides → p.land ≡ q.land → plan_of p ≡ q
plan_is q a b c d e i = record { iterations = a i; passes = b i; cuts = c i; slides = d i; land = e i }

-- the course of a plan is that of the settings it was made from
module _ (w h : ℕ) (conf : FluvialSettings) (stop : ℕ) {plan : FluvialPlan} (e : plan_of plan ≡ fluvial_plan w h conf) where
  course_is : course_by w h plan stop ≡ fluvial_course w h (fluvial_plan w h conf) stop ours
  course_is = ap (λ (p : Plan). fluvial_course w h p stop ours) e

  course_bounded : InRange w h → conf.iterations ≤ 4096 → Bounded (course_by w h plan stop)
  course_bounded r l =
      subst Bounded (sym course_is) (fluvial_bounded w h r conf stop ours l)

at_most : {n a b : ℕ} → n ≤ min a b → (n ≤ a) × (n ≤ b)
at_most l = (omega arith, omega arith)

-- each scratch slice has n cells or more
pub record Rooms (n : ℕ) (s : Scratch) : Type 0 where
  pub small : n ≤ s.small
  pub eroded : n ≤ s.eroded
  pub copy : n ≤ s.copy
  pub area : n ≤ s.area
  pub order : n ≤ s.order
  pub recv : n ≤ s.recv
  pub queue : n ≤ s.queue
  pub status : n ≤ s.status

-- the whole call
module _ (w h : ℕ) (conf : FluvialSettings) (stop : ℕ) (map : List Float) (scratch : FluvialScratch) where
  abbrev lengths : Scratch
  lengths = lengths_of scratch

  abbrev outcome : Outcome (Unit {0})
  outcome = fluvial_input_refusal w h conf map lengths

  -- by the test of the settings and the length of the shortest scratch slice
  pub decided : {o : Outcome (Unit {0})} {bad : Bool} {n : ℕ} → o ≡ refusal_on w h bad map n → bad ≡ bad_fluvial conf → n ≡ shortest_of lengths → o ≡ outcome
  decided = decided_by w h map

  module _ {early : Answer} (f : answer_of early ≡ outcome) (e : early ≡ Ok tt) where
    pub run_accepted : Input.AcceptedRun w h (bad_fluvial conf) map (shortest_of lengths)
    run_accepted = accepted_by w h (bad_fluvial conf) map _ (done_accepts f e)

    module _ {work : Sides} (g : work ≡ work_size w h conf.work_res) where
      pub run_within : Within w h work.w work.h
      run_within = accepted_within run_accepted conf.work_res g

      -- the working cells of the scratch slices
      pub run_rooms : Rooms (work.w * work.h) lengths
      run_rooms =
          let halves = at_most (le_trans (within_cells run_within) run_accepted.room) in
          let maps = at_most halves.0 in
          let cells = at_most halves.1 in
          record {
            small = (at_most maps.0).0;
            eroded = (at_most maps.0).1;
            copy = (at_most maps.1).0;
            area = (at_most maps.1).1;
            order = (at_most cells.0).0;
            recv = (at_most cells.0).1;
            queue = (at_most cells.1).0;
            status = (at_most cells.1).1;
          }

      module _ {plan : FluvialPlan} (p : plan_of plan ≡ fluvial_plan work.w work.h conf) where
        abbrev cells : ℕ
        cells = work.w * work.h

        pub run_erodes :
            Erodes w h work.w work.h plan stop map
            (scratch_of (take cells scratch.small) (take cells scratch.eroded) (take cells scratch.copy) (take cells scratch.area) (take cells scratch.order) (take cells scratch.recv) scratch.queue scratch.status)
        run_erodes =
            let a = run_accepted in
            let r = run_rooms in
            record {
              sides = run_within;
              bounded = course_bounded work.w work.h conf stop p (within_range run_within) (fluvial_iterations conf a.settings);
              sides_open = ap (λ (q : Plan). q.land.sides) p;
              heights = a.cells;
              finites = a.finites;
              small = length-take-le cells scratch.small r.small;
              eroded = length-take-le cells scratch.eroded r.eroded;
              copy = length-take-le cells scratch.copy r.copy;
              area = length-take-le cells scratch.area r.area;
              order = length-take-le cells scratch.order r.order;
              recv = length-take-le cells scratch.recv r.recv;
              queue = r.queue;
              status = r.status;
            }

        whole_is : run_on as_source w h (course_by work.w work.h plan stop) map ≡ run_by w h conf stop ours map
        unfolding run_by
        whole_is =
            ap (λ (c : Course). run_on as_source w h c map) (course_is work.w work.h conf stop p)
            ∙ ap (λ (work : Sides). run_on as_source w h (fluvial_course work.w work.h (fluvial_plan work.w work.h conf) stop ours) map) g

        pub run_done : {r : Reach} {a : RunAnswer} (map' : List Float) (scratch' : FluvialScratch) → Answered r a
            → worked map' r ≡ whole_run w h (course_by work.w work.h plan stop) map → Fit map
            → FluvialRun w h conf stop map scratch a map' scratch'
        run_done {r} {a} map' scratch' s t fit =
            let ran = whole_run_lem w h (course_by work.w work.h plan stop) map t run_within.dh_low run_erodes.bounded.some in
            record {
              ended = ending_ran r a outcome map map' (run_by w h conf stop ours map) s (ran ∙ whole_is) (done_accepts f e);
              fit = fit;
              kept = done_keeps f e;
            }
