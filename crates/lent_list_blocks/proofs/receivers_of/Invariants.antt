use Rattle.loops.proofs.FillLaws.{Filling}
use Rattle.lent_list_blocks.specs.Blocks.{taken_at, receivers_at}
use Rattle.lent_list_blocks.proofs.receivers_of.Given as goal

abbrev pub invariant-loop-i : goal.invariant-loop-i
invariant-loop-i l = Filling (receivers_at l.recv l.list (taken_at l.whole l.places l.from)) l.i l.initial.receiver-items l.receiver-items
