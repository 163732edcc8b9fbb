use Rattle.fluvial_opening.specs.Opening.{lent_to, SameSlices}
use Rattle.run_parts.specs.Reached.{going}
use Rattle.fluvial_loop.specs.Loops.{course_by}
use Rattle.fluvial_loop.proofs.IterateLaws.{Iterating}
use Rattle.fluvial_loop.proofs.run_iterations.Given as goal

-- After `it` iterations map and counts are those of the run by its loops.
abbrev pub invariant-loop-it : goal.invariant-loop-it
invariant-loop-it l = SameSlices l.initial.s l.s × Iterating (course_by l.size.w l.size.h l.plan l.stop) l.initial.hmap (lent_to l.initial.hmap l.initial.s) l.it l.hmap (going l.r) (lent_to l.hmap l.s)
