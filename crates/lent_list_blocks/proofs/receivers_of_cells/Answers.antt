use Rattle.std.proofs.Common.{refl, arith}
use Rattle.loops.proofs.FillLaws.{filling_none, filling_more, stored}
use Rattle.lent_list_blocks.proofs.receivers_of_cells.Goals as goal

pub loop-i-init : goal.loop-i-init
loop-i-init c = filling_none

pub loop-i-preserved : goal.loop-i-preserved
loop-i-preserved c = filling_more c.loop-i.invariant refl (omega (arith, c.loop-i-test.true, c.requires.room))

pub returns : goal.returns
returns c = stored c.loop-i.invariant c.loop-i.auto.i-end c.loop-i-test.false
