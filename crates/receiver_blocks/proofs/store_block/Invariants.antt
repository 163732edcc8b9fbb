use Rattle.receiver_blocks.specs.Runs.{Stored}
use Rattle.receiver_blocks.proofs.store_block.Given as goal

abbrev pub invariant-loop-i : goal.invariant-loop-i
invariant-loop-i l = Stored l.block.spill.size.w l.block.first l.i l.cells l.initial.recv l.recv
