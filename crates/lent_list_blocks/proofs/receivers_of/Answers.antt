use Rattle.std.proofs.Common.{get_or, ap}
use Rattle.loops.proofs.FillLaws.{filling_none, filling_more}
use Rattle.lent_list_blocks.proofs.receivers_of.Goals as goal

pub loop-i-init : goal.loop-i-init
loop-i-init c = filling_none

pub loop-i-preserved : goal.loop-i-preserved
loop-i-preserved c = filling_more c.loop-i.invariant (ap (λ p. get_or c.args.recv.now (get_or c.args.list.now p 0) 0) c.taken-position.ensures) c.loop-i-test.true
