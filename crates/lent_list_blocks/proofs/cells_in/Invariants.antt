use Rattle.lent_list_blocks.specs.Blocks.{Taken}
use Rattle.lent_list_blocks.proofs.cells_in.Given as goal

abbrev pub invariant-loop-p : goal.invariant-loop-p
invariant-loop-p l = Taken l.list l.lo l.from l.p l.cells l.k
