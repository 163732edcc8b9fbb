use mathlib.Core.Path.{◌≡◌, ap, ◌∙◌}
use native.Mathlib.Omega.{arith}
use Rattle.answers.specs.Outcome.{answer_of}
use Rattle.resample.specs.WorkSize.{Within}
use Rattle.grid.specs.declared.Sides.{Sides}
use Rattle.run_machine.specs.Plan.{thermal_passes, thermal_params}
use Rattle.thermal_run.specs.ThermalRun.{thermal_input_refusal}
use Rattle.thermal_run.proofs.RunLaws.{decided, run_within, counted, run_erodes, run_done}
use Rattle.thermal_run.proofs.gen_thermal_erosion.Goals as goal
use Rattle.thermal_run.proofs.gen_thermal_erosion.Goals.{After-work_sides-work}

-- the refusal of the input
told : (c : After-work_sides-work) → let a = c.args in
    answer_of c.refusal.result ≡ thermal_input_refusal a.size.w a.size.h a.conf a.hmap.now (record { small = a.small.now; eroded = a.eroded.now; copy = a.copy.now })
told c = let a = c.args in decided a.size.w a.size.h a.conf a.stop a.hmap.now a.small.now a.eroded.now a.copy.now c.refusal.ensures c.bad_thermal.ensures c.min-scratch.ensures c.min.ensures

-- the working sides
within : (c : After-work_sides-work) → Within c.args.size.w c.args.size.h c.work_sides-work.result.w c.work_sides-work.result.h
within c = let a = c.args in run_within a.size.w a.size.h a.conf a.stop a.hmap.now a.small.now a.eroded.now a.copy.now (told c) c.in_default.is c.work_sides-work.ensures

-- by numbers, which bound the full sides too
pub on-grid-requires-clause-w_bound : goal.on-grid-requires-clause-w_bound
on-grid-requires-clause-w_bound c =
    let n = within (goal.at.on-grid-requires-clause-w_bound c).After-work_sides-work in
    omega (arith, n.dw_high, n.wide)

pub on-grid-requires-clause-h_bound : goal.on-grid-requires-clause-h_bound
on-grid-requires-clause-h_bound c =
    let n = within (goal.at.on-grid-requires-clause-h_bound c).After-work_sides-work in
    omega (arith, n.dh_high, n.high)

pub invariant_of-plan : goal.invariant_of-plan
invariant_of-plan c =
    let a = c.args in
    let n = counted a.size.w a.size.h a.conf a.stop a.hmap.now a.small.now a.eroded.now a.copy.now (told (goal.at.invariant_of-plan c).After-work_sides-work) c.in_default.is c.work_sides-work.ensures (c.passes.ensures ∙ ap (λ (g : Sides). thermal_passes g.w g.h a.conf) c.on-grid.ensures) in
    record { some = n.some; few = n.few }

pub erode-requires : goal.erode-requires
erode-requires c =
    let a = c.args in
    run_erodes a.size.w a.size.h a.conf a.stop a.hmap.now a.small.now a.eroded.now a.copy.now (told (goal.at.erode-requires c).After-work_sides-work) c.in_default.is c.work_sides-work.ensures

pub returns : goal.returns
returns c =
    let a = c.args in
    run_done a.size.w a.size.h a.conf a.stop a.hmap.now a.small.now a.eroded.now a.copy.now (told (goal.at.returns c).After-work_sides-work) c.in_default.is c.work_sides-work.ensures (c.passes.ensures ∙ ap (λ (g : Sides). thermal_passes g.w g.h a.conf) c.on-grid.ensures) (c.thermal_plan.ensures ∙ ap (λ (g : Sides). thermal_params g.w g.h a.conf) c.on-grid.ensures) _ _ _ _
    c.answered.ensures c.erode.ensures
