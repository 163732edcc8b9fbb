use Prim.Native.Nat.{◌+◌}
use native.Mathlib.Omega.{arith}
use mathlib.Core.Path.{◌≡◌}
use mathlib.Core.Logic.{◌⊎◌}
use lib.ListN.{get_or}
use Rattle.loops.proofs.FillLaws.{filling_none, filling_more}
use Rattle.grid.specs.Directions.{Adjacent}
use Rattle.grid_inner.specs.Inner.{Inner}
use Rattle.receiver_blocks.proofs.OffsetLaws.{inner_inside, inner_few, discoverer_near, discoverer_back, discoverer_ahead}
use Rattle.receiver_blocks.proofs.discoverer_block.Goals as goal
use Rattle.receiver_blocks.proofs.discoverer_block.Goals.{In-loop-i}

-- the cell of this turn is an inner one, and its discoverer is near
cell : (c : In-loop-i) → Inner c.args.block.now.spill.size.w c.args.block.now.spill.size.h (c.args.block.now.first + c.loop-i.i)
cell c = c.args.block.now.inner.inner c.loop-i.i c.loop-i-test.true

discoverer : (c : In-loop-i) → (get_or c.args.recv.now (c.args.block.now.first + c.loop-i.i) 0 ≡ c.args.block.now.first + c.loop-i.i) ⊎ Adjacent c.args.block.now.spill.size.w c.args.block.now.spill.size.h (c.args.block.now.first + c.loop-i.i) (get_or c.args.recv.now (c.args.block.now.first + c.loop-i.i) 0)
discoverer c = c.requires.near_discoverers.near (c.args.block.now.first + c.loop-i.i) (omega arith) (omega (arith, c.loop-i-test.true))

pub loop-i-init : goal.loop-i-init
loop-i-init c = (filling_none, filling_none)

pub overflow_add-c : goal.overflow_add-c
overflow_add-c c = omega (arith, inner_inside (cell c), inner_few (cell c))

pub offset_bounds-recv-c : goal.offset_bounds-recv-c
offset_bounds-recv-c c = omega (arith, inner_inside (cell (goal.at.offset_bounds-recv-c c).In-loop-i), inner_few (cell (goal.at.offset_bounds-recv-c c).In-loop-i))

pub bounds-recv-c : goal.bounds-recv-c
bounds-recv-c c = omega (arith, inner_inside (cell (goal.at.bounds-recv-c c).In-loop-i), c.requires.recv_len)

pub discoverer_slope-requires-clause-near : goal.discoverer_slope-requires-clause-near
discoverer_slope-requires-clause-near c = discoverer_near (cell (goal.at.discoverer_slope-requires-clause-near c).In-loop-i) (discoverer (goal.at.discoverer_slope-requires-clause-near c).In-loop-i)

pub discoverer_slope-requires-clause-c_in_bounds : goal.discoverer_slope-requires-clause-c_in_bounds
discoverer_slope-requires-clause-c_in_bounds c = omega (arith, inner_inside (cell (goal.at.discoverer_slope-requires-clause-c_in_bounds c).In-loop-i), c.args.block.now.spill.whole)

pub offset-requires-clause-c_bound : goal.offset-requires-clause-c_bound
offset-requires-clause-c_bound c = discoverer_back (cell (goal.at.offset-requires-clause-c_bound c).In-loop-i) (discoverer (goal.at.offset-requires-clause-c_bound c).In-loop-i)

pub offset-requires-clause-m_bound : goal.offset-requires-clause-m_bound
offset-requires-clause-m_bound c = discoverer_ahead (cell (goal.at.offset-requires-clause-m_bound c).In-loop-i) (discoverer (goal.at.offset-requires-clause-m_bound c).In-loop-i)

pub loop-i-preserved : goal.loop-i-preserved
loop-i-preserved c = (filling_more c.loop-i.invariant.0 c.offset.ensures (omega (arith, c.loop-i-test.true, c.args.block.now.few, c.told-cells)), filling_more c.loop-i.invariant.1 c.discoverer_slope.ensures (omega (arith, c.loop-i-test.true, c.args.block.now.few, c.told-slopes)))
