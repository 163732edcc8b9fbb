use Prim.Native.Nat.{suc}
use Rattle.loops.proofs.FillLaws.{Filling}
use Rattle.grid.specs.Directions.{neighbour_at}
use Rattle.flood_reach.proofs.find_all.Given as goal

abbrev pub invariant-loop-d : goal.invariant-loop-d
invariant-loop-d l = Filling (λ i. neighbour_at l.g.w l.g.h l.c (suc i)) l.d l.initial.found l.found
