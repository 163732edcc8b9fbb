use Prim.Native.Nat.{◌+◌}
use native.Mathlib.Omega.{arith}
use Rattle.loops.proofs.FillLaws.{filling_none, filling_more, filling_done}
use Rattle.grid.proofs.SidesLaws.{place_of}
use Rattle.grid.proofs.NeighbourLaws.{entry_step, entry_neighbour}
use Rattle.flood_reach.proofs.ByLaws.{near_next}
use Rattle.flood_reach.proofs.find_all.Goals as goal

pub loop-d-init : goal.loop-d-init
loop-d-init c = filling_none

pub neighbour-requires : goal.neighbour-requires
neighbour-requires c = record { place = place_of c.requires.in_range _ c.requires.c_bound; step = entry_step (c.loop-d.d + 1) }

pub loop-d-preserved : goal.loop-d-preserved
loop-d-preserved c = filling_more c.loop-d.invariant (near_next _ _ _ c.loop-d.d _ (entry_neighbour _ _ _ _ (c.loop-d.d + 1) c.neighbour.ensures)) (omega (arith, c.told-found, c.loop-d-test.true))

pub returns : goal.returns
returns c = filling_done c.loop-d.invariant 8 c.told-found c.loop-d-test.false
