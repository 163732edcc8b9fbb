use Rattle.std.proofs.lemmas.Result.{err_from_is_err_and}
use Prim.Native.Nat.{◌+◌}
use mathlib.Core.Path.{refl, ap}
use lib.ListN.{length}
use native.Mathlib.Omega.{arith}
use Rattle.run_parts.specs.Reached.{going, reach_of}
use Rattle.run_parts.proofs.ReachedLaws.{worked, err_worked, err_number}
use Rattle.fluvial_loop.specs.Loops.{course_by}
use Rattle.fluvial_loop.proofs.SlideLaws.{Slid, slides_places, slid_none, slid_ready, slid_more, slid_on, slid_done, slid_ended}
use Rattle.fluvial_loop.proofs.talus_passes.Goals as goal
use Rattle.fluvial_loop.proofs.talus_passes.Goals.{After-run_pass}

pub loop-q-init : goal.loop-q-init
loop-q-init c = slid_none _ _ _ c.requires.copied

pub pass_begins-from-requires : goal.pass_begins-from-requires
pass_begins-from-requires c = slides_places c.requires _ c.loop-q.invariant.within

pub pass_begins-to-requires : goal.pass_begins-to-requires
pass_begins-to-requires c = slides_places c.requires _ (omega (arith, c.loop-q-test.true))

pub run_pass-requires : goal.run_pass-requires
run_pass-requires c = slid_ready _ _ _ _ _ _ _ c.loop-q.invariant c.requires c.loop-q-test.true

-- after one pass more, whatever it answers
passed : (c : After-run_pass) → let a = c.args in Slid (course_by a.size.w a.size.h a.plan a.stop) a.it (worked a.hmap.now (going a.reached)) (c.loop-q.q + 1) c.run_pass.new.hmap (reach_of c.run_pass.result) (length c.run_pass.new.copy)
passed c = slid_more _ _ _ _ _ _ _ c.loop-q.invariant c.loop-q-test.true refl c.thresholds-ts.ensures c.pass_begins-from.ensures c.pass_begins-to.ensures c.run_pass.ensures.held c.run_pass.auto.hmap c.run_pass.auto.copy

pub returns-in_err-r : goal.returns-in_err-r
returns-in_err-r c =
    let p = err_from_is_err_and c.from_residual.result c.from_residual.ensures.1 in
    rw (p.1, p.2) (err_worked c.in_err-r.was (slid_ended _ _ _ _ _ _ _ (passed (goal.at.returns-in_err-r c).After-run_pass) (err_number c.in_err-r.was)))

pub loop-q-preserved : goal.loop-q-preserved
loop-q-preserved c = slid_on _ _ _ _ _ _ _ (passed (goal.at.loop-q-preserved c).After-run_pass) (ap reach_of c.in_ok-r.was)

pub returns : goal.returns
returns c = slid_done _ _ _ _ _ _ _ c.loop-q.invariant c.loop-q-test.false
