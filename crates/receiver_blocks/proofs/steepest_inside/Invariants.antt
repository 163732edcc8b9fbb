use Rattle.loops.proofs.LoopLaws.{Turning}
use Rattle.receiver_blocks.proofs.OffsetLaws.{against}
use Rattle.receiver_blocks.proofs.steepest_inside.Given as goal

abbrev pub invariant-loop-d : goal.invariant-loop-d
invariant-loop-d l = Turning (against l.by_direction l.spill.size.w l.spill.size.h l.spill.heights.now l.c) 8 l.d l.initial.b l.b
