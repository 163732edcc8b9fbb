use native.Mathlib.Omega.{arith}
use Rattle.loops.proofs.FillLaws.{filling_none, filling_more}
use Rattle.receiver_blocks.proofs.BlockLaws.{steepest_next}
use Rattle.receiver_blocks.proofs.steepest_block.Goals as goal

pub loop-i-init : goal.loop-i-init
loop-i-init c = filling_none

pub loop-i-preserved : goal.loop-i-preserved
loop-i-preserved c = filling_more c.loop-i.invariant (steepest_next _ _ _ _ _ _ c.args.slopes.now c.loop-i.i c.loop-i.invariant c.steepest_inside.ensures) (omega (arith, c.loop-i-test.true, c.args.block.now.few, c.told-cells))
