use Rattle.areas.specs.Words.{areas_in}
use Rattle.incision_paths.specs.Settled.{settled_height}
use Rattle.incision_paths.specs.Walk.{Ascent}
use Rattle.incision_paths.proofs.walk_up.Given as goal

abbrev pub invariant-loop-steps : goal.invariant-loop-steps
invariant-loop-steps l = Ascent l.tables.by.width l.recv (areas_in l.initial.words) l.i (settled_height l.tables.by l.hmap (areas_in l.initial.words) l.recv) l.words l.out l.j l.steps

abbrev pub decreases-loop-steps : goal.decreases-loop-steps
decreases-loop-steps l = l.steps
