use lib.ListN.{length}
use Rattle.flow.specs.declared.Lent.{Lent}
use Rattle.std.proofs.lemmas.Result.{err_from_is_err_and}
use Prim.Native.Nat.{◌+◌}
use mathlib.Core.Path.{refl, sym, ap, ◌∙◌}
use native.Mathlib.Omega.{arith}
use Rattle.fluvial_opening.specs.Opening.{lent_to}
use Rattle.fluvial_opening.proofs.OpeningLaws.{same_slices, same_then}
use Rattle.run_parts.specs.Reached.{reach_of}
use Rattle.run_parts.proofs.ReachedLaws.{end_number, ok_worked, err_worked, err_number}
use Rattle.fluvial_loop.specs.Loops.{course_by}
use Rattle.fluvial_loop.proofs.SlideLaws.{count_float}
use Rattle.fluvial_loop.proofs.IterateLaws.{Iterating, lent_same, iterating_none, iterating_done, iterating_ended, iterating_on, iterating_opened_ended, iterating_enough, iterating_accepted, iterating_based, iterating_counts, iterating_slides, iterating_more}
use Rattle.fluvial_loop.proofs.run_iterations.Goals as goal
use Rattle.fluvial_loop.proofs.run_iterations.Goals.{After-talus_passes}

pub loop-it-init : goal.loop-it-init
loop-it-init c = let a = c.args in (same_slices a.s.now, iterating_none a.size.w a.size.h a.plan a.stop _ _ c.begun-r.ensures)

pub int_to_float-p : goal.int_to_float-p
int_to_float-p c = count_float _ (omega (arith, c.loop-it.invariant.1.within, c.requires.bounded.iterations))

pub int_to_float-p-in-loop-it : goal.int_to_float-p-in-loop-it
int_to_float-p-in-loop-it c = count_float _ c.requires.bounded.iterations

pub open_iteration-requires-clause-accepted_grid : goal.open_iteration-requires-clause-accepted_grid
open_iteration-requires-clause-accepted_grid c =
    let a = c.args in
    let enough = iterating_enough a.size.w a.size.h a.plan a.stop _ _ _ _ _ _ c.loop-it.invariant.1 c.requires.enough in
    iterating_accepted a.size.w a.size.h a.plan a.stop _ _ _ _ _ _ c.loop-it.invariant.1 c.requires.accepted_grid c.slice_known-1.given enough.heights

pub open_iteration-requires-clause-counts : goal.open_iteration-requires-clause-counts
open_iteration-requires-clause-counts c = let a = c.args in iterating_counts a.size.w a.size.h a.plan a.stop _ _ _ _ _ _ c.loop-it.invariant.1 c.requires.bounded c.loop-it-test.true refl

pub open_iteration-requires-clause-hmap_value : goal.open_iteration-requires-clause-hmap_value
open_iteration-requires-clause-hmap_value c = let a = c.args in iterating_based a.size.w a.size.h a.plan a.stop _ _ _ _ _ _ c.loop-it.invariant.1 c.requires.accepted_grid.sides c.requires.sides_value

pub talus_passes-requires : goal.talus_passes-requires
talus_passes-requires c =
    let a = c.args in
    let enough = iterating_enough a.size.w a.size.h a.plan a.stop _ _ _ _ _ _ c.loop-it.invariant.1 c.requires.enough in
    let k = c.open_iteration.ensures.lengths in
    let heights = ap (λ (l : Lent). l.heights) k ∙ enough.heights in
    iterating_slides a.size.w a.size.h a.plan a.stop _ _ _ _ _ _ c.loop-it.invariant.1 c.requires.bounded c.loop-it-test.true refl _ _ (ok_worked c.in_ok-r.was c.open_iteration.ensures.opened) heights (ap (λ (l : Lent). l.spill) k ∙ enough.spill ∙ sym heights)

-- after one iteration more, whatever it answers
iterated : (c : After-talus_passes) → let a = c.args in Iterating (course_by a.size.w a.size.h a.plan a.stop) a.hmap.now (lent_to a.hmap.now a.s.now) (c.loop-it.it + 1) c.talus_passes.new.hmap (reach_of c.talus_passes.result)
    (record (lent_to c.talus_passes.new.hmap c.open_iteration.new.s) { spill = length c.talus_passes.new.copy })
iterated c =
    let a = c.args in
    let k = c.open_iteration.ensures.lengths in
    let t = c.talus_passes.auto in
    iterating_more a.size.w a.size.h a.plan a.stop _ _ _ _ _ _ c.loop-it.invariant.1 c.requires.bounded c.loop-it-test.true refl _ _ (ok_worked c.in_ok-r.was c.open_iteration.ensures.opened) _ _ _ c.talus_passes.ensures
    (lent_same (t.hmap ∙ ap (λ (l : Lent). l.heights) k) (ap (λ (l : Lent). l.order) k) (ap (λ (l : Lent). l.receivers) k) (t.copy ∙ ap (λ (l : Lent). l.spill) k) (ap (λ (l : Lent). l.areas) k) (ap (λ (l : Lent). l.queue) k) (ap (λ (l : Lent). l.status) k))

pub returns-in_err-r-clause-ran : goal.returns-in_err-r-clause-ran
returns-in_err-r-clause-ran c =
    let a = c.args in
    let p = err_from_is_err_and c.from_residual.result c.from_residual.ensures.1 in
    rw (p.1, p.2)
    (iterating_opened_ended a.size.w a.size.h a.plan a.stop _ _ _ _ _ _ c.loop-it.invariant.1 c.requires.bounded c.loop-it-test.true refl _ _ (err_worked c.in_err-r.was c.open_iteration.ensures.opened) (end_number _))

pub returns-in_err-r-2-clause-ran : goal.returns-in_err-r-2-clause-ran
returns-in_err-r-2-clause-ran c =
    let a = c.args in
    let p = err_from_is_err_and c.from_residual-in_err-r-2.result c.from_residual-in_err-r-2.ensures.1 in
    rw (p.1, p.2)
    (err_worked c.in_err-r-2.was (iterating_ended a.size.w a.size.h a.plan a.stop _ _ _ _ _ _ (iterated (goal.at.returns-in_err-r-2-clause-ran c).After-talus_passes) (err_number c.in_err-r-2.was)))

pub loop-it-preserved : goal.loop-it-preserved
loop-it-preserved c =
    let a = c.args in
    let same = same_then c.loop-it.invariant.0 c.open_iteration.ensures.same in (
      record { copy = same.copy; area = same.area; order = same.order; recv = same.recv; queue = same.queue; status = same.status },
      iterating_on a.size.w a.size.h a.plan a.stop _ _ _ _ _ _ (iterated (goal.at.loop-it-preserved c).After-talus_passes) (ap reach_of c.in_ok-r-2.was),
    )

pub returns-clause-ran : goal.returns-clause-ran
returns-clause-ran c = let a = c.args in iterating_done a.size.w a.size.h a.plan a.stop _ _ _ _ _ _ c.loop-it.invariant.1 c.loop-it-test.false
