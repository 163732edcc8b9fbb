use Rattle.areas.specs.Words.{areas_in}
use Rattle.incision_paths.specs.Settled.{settled_height}
use Rattle.incision_paths.specs.Walk.{Upto}
use Rattle.incision_paths.proofs.incise_ways.Given as goal

abbrev pub invariant-loop-i : goal.invariant-loop-i
invariant-loop-i l = Upto l.fn.by.width l.recv (areas_in l.initial.words) l.i (settled_height l.fn.by l.hmap (areas_in l.initial.words) l.recv) l.words l.out
