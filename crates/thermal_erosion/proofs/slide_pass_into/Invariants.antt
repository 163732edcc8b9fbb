use Rattle.thermal_erosion.proofs.PassLaws.{Rowed}
use Rattle.thermal_erosion.proofs.slide_pass_into.Given as goal

abbrev pub invariant-loop-y : goal.invariant-loop-y
invariant-loop-y l = Rowed l.fn.size.w l.fn.size.h l.ts l.strength l.water l.hmap l.from l.to l.stop l.initial.marks l.y l.out l.marks
