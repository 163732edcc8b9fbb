use Rattle.loops.proofs.FillLaws.{Filling}
use Rattle.lent_list_blocks.specs.Blocks.{receiver_at}
use Rattle.lent_list_blocks.proofs.receivers_of_cells.Given as goal

abbrev pub invariant-loop-i : goal.invariant-loop-i
invariant-loop-i l = Filling (receiver_at l.recv l.cells) l.i l.initial.below l.below
