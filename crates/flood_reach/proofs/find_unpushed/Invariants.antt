use Prim.Native.Nat.{◌≤◌}
use Rattle.grid.specs.Directions.{neighbour_at}
use Rattle.flood_reach.specs.Reaches.{Found}
use Rattle.flood_reach.proofs.find_unpushed.Given as goal

abbrev pub invariant-loop-d : goal.invariant-loop-d
invariant-loop-d l = (l.d ≤ 8) × Found (neighbour_at l.g.w l.g.h l.c) l.status l.d l.some l.found
