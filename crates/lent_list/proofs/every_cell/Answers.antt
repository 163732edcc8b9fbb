use Rattle.std.proofs.Common.{refl}
use Rattle.loops.proofs.LoopLaws.{turning_none, turning_more, turning_done}
use Rattle.lent_list.specs.Entries.{every_cell}
use Rattle.lent_list.proofs.every_cell.Goals as goal

pub loop-c-init : goal.loop-c-init
loop-c-init c = turning_none

pub loop-c-preserved : goal.loop-c-preserved
loop-c-preserved c = turning_more c.loop-c.invariant c.loop-c-test.true refl

pub returns : goal.returns
unfolding every_cell
returns c = turning_done c.loop-c.invariant c.loop-c-test.false
