use Prim.Native.Nat.{◌*◌, ◌<◌}
use mathlib.Core.Path.{◌≡◌, refl}
use native.Mathlib.Omega.{arith}
use lib.ListN.{length-set}
use Rattle.grid.specs.Directions.{neighbour_at}
use Rattle.grid.proofs.NeighbourLaws.{entry_neighbour}
use Rattle.grid_inner.proofs.InnerLaws.{inner_below}
use Rattle.talus.proofs.RowLaws.{passing_none, passing_more, passing_done}
use Rattle.talus_directions.specs.Parts.{gains_toward}
use Rattle.talus_directions.proofs.PassLaws.{gain_more, inner_is}
use Rattle.talus_directions.proofs.gain_block.Goals as goal
use Rattle.talus_directions.proofs.gain_block.Goals.{After-beside-m}

pub loop-i-init : goal.loop-i-init
loop-i-init c = passing_none

pub beside-m-requires-clause-inner : goal.beside-m-requires-clause-inner
beside-m-requires-clause-inner c = inner_is c.args.block.inner c.loop-i-test.true c.cell-c.ensures.c

-- its neighbour in this direction is one of the map's
toward : (c : After-beside-m) → c.beside-m.result ≡ neighbour_at c.args.block.cells.map.size.w c.args.block.cells.map.size.h c.cell-c.result.c c.args.d
toward c = entry_neighbour _ _ _ _ c.args.d c.beside-m.ensures

near : (c : After-beside-m) → c.beside-m.result < c.args.block.cells.map.size.w * c.args.block.cells.map.size.h
near c = inner_below _ _ _ c.args.d c.requires.le_d (omega (arith, c.requires.d_bound)) (inner_is c.args.block.inner c.loop-i-test.true c.cell-c.ensures.c) _ _ refl (toward c)

pub excess-e-requires-clause-m_in_bounds : goal.excess-e-requires-clause-m_in_bounds
excess-e-requires-clause-m_in_bounds c = omega (arith, near c)

pub offset_bounds-out-m : goal.offset_bounds-out-m
offset_bounds-out-m c = omega (arith, near (goal.at.offset_bounds-out-m c).After-beside-m)

pub bounds-out-m : goal.bounds-out-m
bounds-out-m c = omega (arith, near (goal.at.bounds-out-m c).After-beside-m)

pub offset_bounds-out-m-in-loop-i : goal.offset_bounds-out-m-in-loop-i
offset_bounds-out-m-in-loop-i c = omega (arith, near (goal.at.offset_bounds-out-m-in-loop-i c).After-beside-m)

pub bounds-out-m-in-loop-i : goal.bounds-out-m-in-loop-i
bounds-out-m-in-loop-i c = omega (arith, near (goal.at.bounds-out-m-in-loop-i c).After-beside-m)

pub loop-i-preserved : goal.loop-i-preserved
loop-i-preserved c =
    let a = c.args in
    passing_more c.loop-i.invariant c.loop-i-test.true (length-set c.loop-i.out c.beside-m.result c.gained.result)
    (gain_more _ _ a.slide.now.thresholds a.block.cells.map.heights.now _ _ a.sheds.totals.now a.sheds.moved.now a.d c.loop-i.i c.loop-i.out
    (rw c.cell-c.ensures.c at (toward (goal.at.loop-i-preserved c).After-beside-m)) (rw c.cell-c.ensures.c at c.excess-e.ensures) c.gained.ensures)

pub returns : goal.returns
unfolding gains_toward
returns c = passing_done c.loop-i.invariant c.loop-i-test.false
