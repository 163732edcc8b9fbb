use Rattle.std.proofs.Common.{arith}
use Rattle.lent_list_blocks.proofs.ListedLaws.{taken_none, taken_next}
use Rattle.lent_list_blocks.proofs.cells_in.Goals as goal

pub loop-p-init : goal.loop-p-init
loop-p-init c = taken_none

pub loop-p-preserved : goal.loop-p-preserved
loop-p-preserved c = taken_next c.loop-p.invariant (omega (arith, c.loop-p-test.true, c.loop-p.invariant.picked.few)) (rw c.is_inside.ensures at c.from-k.ensures)
