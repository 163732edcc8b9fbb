use lib.ListN.{get_or}
use Rattle.generators.specs.Extents.{scaled_by}
use lib.Ieee.{nan}
use Rattle.loops.proofs.FillLaws.{Filling}
use Rattle.generators.proofs.store_scaled.Given as goal

abbrev pub invariant-loop-x : goal.invariant-loop-x
invariant-loop-x l = Filling (λ k. scaled_by l.min l.lo l.slope (get_or l.initial.v k nan)) l.x-index l.initial.v l.v
