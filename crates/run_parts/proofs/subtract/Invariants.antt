use Rattle.loops.proofs.FillLaws.{Filling}
use Rattle.run_parts.proofs.ReachedLaws.{subtracted}
use Rattle.run_parts.proofs.subtract.Given as goal

abbrev pub invariant-loop-i : goal.invariant-loop-i
invariant-loop-i l = Filling (subtracted l.initial.eroded l.small) l.i l.initial.eroded l.eroded
