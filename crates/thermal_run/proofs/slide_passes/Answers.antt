use Rattle.std.proofs.lemmas.Result.{err_from_is_err_and}
use Prim.Native.Nat.{◌+◌}
use mathlib.Core.Path.{refl, ap, ◌∙◌}
use lib.ListN.{length}
use native.Mathlib.Omega.{arith}
use Rattle.talus.specs.Talus.{thresholds_of}
use Rattle.run_machine.specs.Run.{slide_course}
use Rattle.run_parts.specs.Reached.{reach_of, worked_of}
use Rattle.run_parts.proofs.ReachedLaws.{err_worked, err_number}
use Rattle.thermal_run.proofs.SlideLaws.{Passing, passing_none, passing_done, passing_ended, passing_ready, passing_more, passing_on}
use Rattle.thermal_run.proofs.slide_passes.Goals as goal
use Rattle.thermal_run.proofs.slide_passes.Goals.{After-run_pass}

pub loop-pass-init : goal.loop-pass-init
loop-pass-init c = passing_none _ _ _ _ _ _ _ c.begun-r.ensures

pub ratio-from-requires : goal.ratio-from-requires
ratio-from-requires c =
    record { a_bound = omega (arith, c.args.plan.few, c.loop-pass-test.true); b_bound = omega (arith, c.args.plan.few) }

pub ratio-to-requires : goal.ratio-to-requires
ratio-to-requires c =
    record { a_bound = omega (arith, c.args.plan.few, c.loop-pass-test.true); b_bound = omega (arith, c.args.plan.few) }

-- after one pass more, whatever it answers
passed : (c : After-run_pass) → let a = c.args in Passing (slide_course a.work.w a.work.h a.plan.slides a.plan.passes a.stop) a.hmap.now (length a.copy.now) (c.loop-pass.pass + 1) c.run_pass.new.hmap c.run_pass.new.copy (reach_of c.run_pass.result)
passed c = passing_more _ _ _ _ _ _ c.loop-pass.invariant refl _ _ (worked_of _ c.run_pass.result) _ (c.thresholds-ts.ensures ∙ ap (thresholds_of _) c.square_distances.ensures) c.ratio-from.ensures c.ratio-to.ensures c.run_pass.ensures.held c.loop-pass-test.true c.run_pass.auto.hmap c.run_pass.auto.copy

pub returns-in_err-r : goal.returns-in_err-r
returns-in_err-r c =
    let a = c.args in
    let p = err_from_is_err_and c.from_residual.result c.from_residual.ensures.1 in
    let m = passed (goal.at.returns-in_err-r c).After-run_pass in
    rw (p.1, p.2) (err_worked c.in_err-r.was (passing_ended a.work.w a.work.h a.plan.slides a.plan.passes a.stop a.hmap.now m (err_number c.in_err-r.was)))

pub loop-pass-preserved : goal.loop-pass-preserved
loop-pass-preserved c =
    let a = c.args in
    passing_on a.work.w a.work.h a.plan.slides a.plan.passes a.stop a.hmap.now (passed (goal.at.loop-pass-preserved c).After-run_pass) (ap reach_of c.in_ok-r.was)

pub returns : goal.returns
returns c = passing_done _ _ _ _ _ _ c.loop-pass.invariant c.loop-pass-test.false

pub run_pass-requires : goal.run_pass-requires
run_pass-requires c = passing_ready _ _ _ _ _ _ c.loop-pass.invariant refl c.requires c.args.plan.some c.args.plan.few c.loop-pass-test.true
