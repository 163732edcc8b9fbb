use Rattle.lent_list_blocks.proofs.ListedLaws.{Nearing}
use Rattle.lent_list_blocks.proofs.position_in.Given as goal

abbrev pub invariant-loop-p : goal.invariant-loop-p
invariant-loop-p l = Nearing l.list l.lo l.from l.to l.i l.left l.p
