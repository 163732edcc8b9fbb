use Rattle.loops.proofs.FillLaws.{Filling}
use Rattle.receiver_blocks.specs.Runs.{steepest_at}
use Rattle.receiver_blocks.proofs.steepest_block.Given as goal

abbrev pub invariant-loop-i : goal.invariant-loop-i
invariant-loop-i l = Filling (steepest_at l.by_direction l.block.spill.size.w l.block.spill.size.h l.block.spill.heights.now l.block.first l.initial.cells l.slopes) l.i l.initial.cells l.cells
