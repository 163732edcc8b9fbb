use Prim.Native.Nat.{◌*◌}
use native.Mathlib.Omega.{arith}
use mathlib.Core.Path.{◌≡◌, sym, ap, ◌∙◌}
use lib.Seq.{length-take-le}
use Rattle.answers.specs.Outcome.{answer_of}
use Rattle.grid.specs.declared.Sides.{Sides}
use Rattle.resample.specs.WorkSize.{Within}
use Rattle.run_machine.specs.Plan.{fluvial_plan}
use Rattle.fluvial_run.specs.FluvialRun.{fluvial_input_refusal, FluvialScratch, lengths_of}
use Rattle.fluvial_run.proofs.RunLaws.{Rooms, decided, run_within, run_rooms, run_erodes, run_done}
use Rattle.fluvial_run.proofs.gen_fluvial_erosion.Goals as goal
use Rattle.fluvial_run.proofs.gen_fluvial_erosion.Goals.{After-work_sides-work}

abbrev lent : After-work_sides-work → FluvialScratch
lent c = let a = c.args in record { small = a.small.now; eroded = a.eroded.now; copy = a.copy.now; area = a.area.now; order = a.order.now; recv = a.recv.now; queue = a.queue.now; status = a.status.now }

-- the refusal of the input
told : (c : After-work_sides-work) → let a = c.args in answer_of c.refusal.result ≡ fluvial_input_refusal a.size.w a.size.h a.conf a.hmap.now (lengths_of (lent c))
told c = let a = c.args in decided a.size.w a.size.h a.conf a.stop a.hmap.now (lent c) c.refusal.ensures c.bad_fluvial.ensures cc

-- the working sides
within : (c : After-work_sides-work) → let a = c.args in Within a.size.w a.size.h c.work_sides-work.result.w c.work_sides-work.result.h
within c = let a = c.args in run_within a.size.w a.size.h a.conf a.stop a.hmap.now (lent c) (told c) c.in_default.is c.work_sides-work.ensures

-- the working cells of the scratch slices
rooms : (c : After-work_sides-work) → Rooms (c.work_sides-work.result.w * c.work_sides-work.result.h) (lengths_of (lent c))
rooms c = let a = c.args in run_rooms a.size.w a.size.h a.conf a.stop a.hmap.now (lent c) (told c) c.in_default.is c.work_sides-work.ensures

-- by numbers, which bound the full sides too
pub on-requires-clause-w_bound : goal.on-requires-clause-w_bound
on-requires-clause-w_bound c =
    let n = within (goal.at.on-requires-clause-w_bound c).After-work_sides-work in
    omega (arith, n.dw_high, n.wide)

pub on-requires-clause-h_bound : goal.on-requires-clause-h_bound
on-requires-clause-h_bound c =
    let n = within (goal.at.on-requires-clause-h_bound c).After-work_sides-work in
    omega (arith, n.dh_high, n.high)

pub slice_bounds-erode-end : goal.slice_bounds-erode-end
slice_bounds-erode-end c = (rooms (goal.at.slice_bounds-erode-end c).After-work_sides-work).small

pub slice_bounds-erode-end-2 : goal.slice_bounds-erode-end-2
slice_bounds-erode-end-2 c = sym (length-take-le _ _ (rooms (goal.at.slice_bounds-erode-end-2 c).After-work_sides-work).small)

pub slice_bounds-erode-end-3 : goal.slice_bounds-erode-end-3
slice_bounds-erode-end-3 c = (rooms (goal.at.slice_bounds-erode-end-3 c).After-work_sides-work).eroded

pub slice_bounds-erode-end-4 : goal.slice_bounds-erode-end-4
slice_bounds-erode-end-4 c = sym (length-take-le _ _ (rooms (goal.at.slice_bounds-erode-end-4 c).After-work_sides-work).eroded)

pub slice_bounds-scratch-end : goal.slice_bounds-scratch-end
slice_bounds-scratch-end c = (rooms (goal.at.slice_bounds-scratch-end c).After-work_sides-work).copy

pub slice_bounds-scratch-end-2 : goal.slice_bounds-scratch-end-2
slice_bounds-scratch-end-2 c = sym (length-take-le _ _ (rooms (goal.at.slice_bounds-scratch-end-2 c).After-work_sides-work).copy)

pub slice_bounds-scratch-end-3 : goal.slice_bounds-scratch-end-3
slice_bounds-scratch-end-3 c = (rooms (goal.at.slice_bounds-scratch-end-3 c).After-work_sides-work).area

pub slice_bounds-scratch-end-4 : goal.slice_bounds-scratch-end-4
slice_bounds-scratch-end-4 c = sym (length-take-le _ _ (rooms (goal.at.slice_bounds-scratch-end-4 c).After-work_sides-work).area)

pub slice_bounds-scratch-end-5 : goal.slice_bounds-scratch-end-5
slice_bounds-scratch-end-5 c = (rooms (goal.at.slice_bounds-scratch-end-5 c).After-work_sides-work).order

pub slice_bounds-scratch-end-6 : goal.slice_bounds-scratch-end-6
slice_bounds-scratch-end-6 c = sym (length-take-le _ _ (rooms (goal.at.slice_bounds-scratch-end-6 c).After-work_sides-work).order)

pub slice_bounds-scratch-end-7 : goal.slice_bounds-scratch-end-7
slice_bounds-scratch-end-7 c = (rooms (goal.at.slice_bounds-scratch-end-7 c).After-work_sides-work).recv

pub slice_bounds-scratch-end-8 : goal.slice_bounds-scratch-end-8
slice_bounds-scratch-end-8 c = sym (length-take-le _ _ (rooms (goal.at.slice_bounds-scratch-end-8 c).After-work_sides-work).recv)

pub erode-done-requires : goal.erode-done-requires
erode-done-requires c =
    let a = c.args in
    let b = (goal.at.erode-done-requires c).After-work_sides-work in
    run_erodes a.size.w a.size.h a.conf a.stop a.hmap.now (lent b) (told b) c.in_default.is c.work_sides-work.ensures (c.plan_on-plan.ensures ∙ ap (λ (g : Sides). fluvial_plan g.w g.h a.conf) c.on.ensures)

pub returns : goal.returns
returns c =
    let a = c.args in
    let b = (goal.at.returns c).After-work_sides-work in
    run_done a.size.w a.size.h a.conf a.stop a.hmap.now (lent b) (told b) c.in_default.is c.work_sides-work.ensures (c.plan_on-plan.ensures ∙ ap (λ (g : Sides). fluvial_plan g.w g.h a.conf) c.on.ensures) _ _ c.answered.ensures c.erode-done.ensures.ran c.slice_known-1.given
