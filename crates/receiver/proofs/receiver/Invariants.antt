use Rattle.grid.specs.Sides.{cell_of}
use Rattle.receiver.proofs.ReceiverLaws.{Leading}
use Rattle.receiver.proofs.receiver.Given as goal

-- After d directions `best` is the best of these and the discoverer.
abbrev pub invariant-loop-d : goal.invariant-loop-d
invariant-loop-d l = Leading l.tables.distances l.spill.size.w l.spill.size.h l.spill.heights.now (cell_of l.spill.size.w l.x l.y) l.f l.d l.best
