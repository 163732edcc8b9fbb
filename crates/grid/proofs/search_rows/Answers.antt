use native.Mathlib.Omega.{arith}
use Rattle.grid.proofs.SidesLaws.{cell_lt}
use Rattle.grid.proofs.HeightsLaws.{bad_place, no_bad_place}
use Rattle.grid.proofs.WalkLaws.{sought_none, sought_more, sought_bad, sought_row, sought_done}
use Rattle.grid.proofs.search_rows.Goals as goal

pub rows-init : goal.rows-init
rows-init c = sought_none

pub loop-x-init : goal.loop-x-init
loop-x-init c = c.rows.invariant

pub overflow_mul-cell : goal.overflow_mul-cell
overflow_mul-cell c = omega (arith, cell_lt _ _ _ c.loop-x-test.true _ c.if-h-y.false)

pub overflow_add-cell : goal.overflow_add-cell
overflow_add-cell c = omega (arith, cell_lt _ _ _ c.loop-x-test.true _ c.if-h-y.false)

pub offset_bounds-hs-cell : goal.offset_bounds-hs-cell
offset_bounds-hs-cell c = omega (arith, cell_lt _ _ _ c.loop-x-test.true _ c.if-h-y.false)

pub bounds-hs-cell : goal.bounds-hs-cell
bounds-hs-cell c = omega (arith, cell_lt _ _ _ c.loop-x-test.true _ c.if-h-y.false)

pub loop-x-preserved : goal.loop-x-preserved
loop-x-preserved c = sought_more c.loop-x.invariant c.is_finite.ensures c.if-not-is_finite.false-raw

pub rows-preserved : goal.rows-preserved
rows-preserved c = sought_row c.loop-x.invariant c.loop-x-test.false

pub returns-then-h-y : goal.returns-then-h-y
returns-then-h-y c = no_bad_place _ _ (omega (arith, c.requires)) (sought_done c.rows.invariant c.requires c.if-h-y.true)

pub returns-then-not-is_finite : goal.returns-then-not-is_finite
returns-then-not-is_finite c = bad_place _ _ (omega (arith, c.requires, cell_lt _ _ _ c.loop-x-test.true _ c.if-h-y.false)) (sought_bad c.loop-x.invariant c.is_finite.ensures c.requires c.loop-x-test.true c.if-h-y.false c.if-not-is_finite.true-raw)
