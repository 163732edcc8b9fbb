use lib.ListN.{length}
use Rattle.fluvial_loop.specs.Loops.{course_by}
use Rattle.run_parts.specs.Reached.{going}
use Rattle.run_parts.proofs.ReachedLaws.{worked}
use Rattle.fluvial_loop.proofs.SlideLaws.{Slid}
use Rattle.fluvial_loop.proofs.talus_passes.Given as goal

abbrev pub invariant-loop-q : goal.invariant-loop-q
invariant-loop-q l = Slid (course_by l.size.w l.size.h l.plan l.stop) l.it (worked l.initial.hmap (going l.initial.r)) l.q l.hmap (going l.r) (length l.copy)
