use Prim.Native.Nat.{◌+◌}
use native.Mathlib.Omega.{arith}
use mathlib.Core.Path.{◌≡◌, ap}
use mathlib.Core.Logic.{inr}
use Rattle.loops.proofs.LoopLaws.{turning_none, turning_more, turning_done}
use Rattle.grid.specs.Directions.{neighbour_at, Adjacent}
use Rattle.grid.proofs.NeighbourLaws.{entry_step, entry_neighbour}
use Rattle.receiver.specs.declared.Best.{Best}
use Rattle.receiver_blocks.specs.Runs.{steepest_from}
use Rattle.receiver_blocks.proofs.OffsetLaws.{inner_adjacent, discoverer_back, discoverer_ahead, against_is}
use Rattle.receiver_blocks.proofs.steepest_inside.Goals as goal
use Rattle.receiver_blocks.proofs.steepest_inside.Goals.{After-beside-m}

pub loop-d-init : goal.loop-d-init
loop-d-init c = turning_none

pub beside-m-requires-clause-step : goal.beside-m-requires-clause-step
beside-m-requires-clause-step c = entry_step (c.loop-d.d + 1)

-- the neighbour of this turn
near : (c : After-beside-m) → c.beside-m.result ≡ neighbour_at c.args.spill.now.size.w c.args.spill.now.size.h c.args.c (c.loop-d.d + 1)
near c = entry_neighbour _ _ _ _ (c.loop-d.d + 1) c.beside-m.ensures

adjacent : (c : After-beside-m) → Adjacent c.args.spill.now.size.w c.args.spill.now.size.h c.args.c c.beside-m.result
adjacent c = inner_adjacent c.requires.inner c.loop-d.d c.loop-d-test.true _ (near c)

pub offset-requires-clause-c_bound : goal.offset-requires-clause-c_bound
offset-requires-clause-c_bound c = discoverer_back c.requires.inner (inr (adjacent (goal.at.offset-requires-clause-c_bound c).After-beside-m))

pub offset-requires-clause-m_bound : goal.offset-requires-clause-m_bound
offset-requires-clause-m_bound c = discoverer_ahead c.requires.inner (inr (adjacent (goal.at.offset-requires-clause-m_bound c).After-beside-m))

pub compare-b-requires-clause-m_in_bounds : goal.compare-b-requires-clause-m_in_bounds
compare-b-requires-clause-m_in_bounds c = omega (arith, (adjacent (goal.at.compare-b-requires-clause-m_in_bounds c).After-beside-m).inside, c.args.spill.now.whole)

pub loop-d-preserved : goal.loop-d-preserved
loop-d-preserved c = let a = c.args in
    turning_more c.loop-d.invariant c.loop-d-test.true
    (against_is a.by_direction.now _ _ a.spill.now.heights.now _ c.loop-d.d _ _ c.loop-d.b _ (near (goal.at.loop-d-preserved c).After-beside-m) c.offset.ensures c.compare-b.ensures)

pub returns : goal.returns
unfolding steepest_from
returns c = ap (λ (b : Best). b.cell) (turning_done c.loop-d.invariant c.loop-d-test.false)
