use Prim.Native.Nat.{◌+◌, ◌<◌}
use mathlib.Core.Path.{◌≡◌, ◌∙◌}
use mathlib.Core.Bool.{cond}
use lib.Dec.{eqb}
use native.Mathlib.Omega.{arith}
use lib.ListN.{length, get_or}
use Rattle.flood_start.proofs.StartLaws.{flag_number}
use Rattle.grid.specs.Directions.{neighbour_at}
use Rattle.grid.proofs.NeighbourLaws.{entry_step, entry_neighbour}
use Rattle.grid_inner.proofs.InnerLaws.{inner_below}
use Rattle.flood_reach.proofs.FoundLaws.{found_none, found_more, found_done}
use Rattle.flood_reach.proofs.find_unpushed.Goals as goal
use Rattle.flood_reach.proofs.find_unpushed.Goals.{After-beside-m, After-from-some}

pub loop-d-init : goal.loop-d-init
loop-d-init c = (omega arith, found_none _ _ _ c.told-found)

pub beside-m-requires : goal.beside-m-requires
beside-m-requires c = record { inner = c.requires.inner; step = entry_step (c.loop-d.d + 1) }

-- the neighbour of this turn, which has a status
near : (c : After-beside-m) → c.beside-m.result ≡ neighbour_at c.args.g.w c.args.g.h c.args.c (c.loop-d.d + 1)
near c = entry_neighbour _ _ _ _ (c.loop-d.d + 1) c.beside-m.ensures

inside : (c : After-beside-m) → c.beside-m.result < length c.args.status.now
inside c =
    inner_below _ _ _ (c.loop-d.d + 1) (omega arith) (omega arith) c.requires.inner _ _ c.requires.status_len (near c)

pub bounds-status-m : goal.bounds-status-m
bounds-status-m c = inside (goal.at.bounds-status-m c).After-beside-m

-- 1 if the neighbour has not been pushed, else 0
unpushed : (c : After-from-some) → c.from-some.result ≡ cond (eqb (get_or c.args.status.now c.beside-m.result 0) 0) 1 0
unpushed c = c.from-some.ensures ∙ flag_number _

pub loop-d-preserved : goal.loop-d-preserved
loop-d-preserved c = let i = c.loop-d.invariant in
    (omega arith, found_more _ _ _ _ _ _ _ i.1 c.loop-d-test.true (near (goal.at.loop-d-preserved c).After-beside-m) (inside (goal.at.loop-d-preserved c).After-beside-m) (unpushed (goal.at.loop-d-preserved c).After-from-some))

pub returns : goal.returns
returns c = found_done _ _ _ _ _ c.loop-d.invariant.0 c.loop-d-test.false c.loop-d.invariant.1
