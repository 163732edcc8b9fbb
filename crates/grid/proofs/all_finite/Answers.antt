use native.Mathlib.Omega.{arith}
use lib.ListN.{get_or}
use lib.Ieee.{nan}
use Rattle.grid.proofs.HeightsLaws.{all_none, all_more, all_done}
use Rattle.grid.proofs.all_finite.Goals as goal

pub loop-height-init : goal.loop-height-init
loop-height-init c = (omega arith, all_none (λ k. get_or c.args.hs.now k nan))

pub loop-height-preserved : goal.loop-height-preserved
loop-height-preserved c = let i = c.loop-height.invariant in
    (omega arith, all_more (λ k. get_or c.args.hs.now k nan) _ i.1 c.is_finite-good.ensures)

pub returns : goal.returns
returns c = all_done _ _ c.loop-height.invariant.1 c.loop-height.invariant.0 c.loop-height-test.false
