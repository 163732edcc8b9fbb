use lib.ListN.{length}
use Rattle.run_machine.specs.Run.{slide_course}
use Rattle.run_parts.specs.Reached.{going}
use Rattle.thermal_run.proofs.SlideLaws.{Passing}
use Rattle.thermal_run.proofs.slide_passes.Given as goal

abbrev pub invariant-loop-pass : goal.invariant-loop-pass
invariant-loop-pass l = Passing (slide_course l.work.w l.work.h l.plan.slides l.plan.passes l.stop) l.initial.hmap (length l.initial.copy) l.pass l.hmap l.copy (going l.r)
