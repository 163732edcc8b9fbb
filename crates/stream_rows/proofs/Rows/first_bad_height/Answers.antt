use native.Mathlib.Omega.{arith}
use Rattle.grid.proofs.SidesLaws.{cell_lt}
use Rattle.grid.proofs.HeightsLaws.{bad_place, no_bad_place}
use mathlib.Core.Path.{ap}
use mathlib.Core.Bool.{not}
use Rattle.grid.proofs.WalkLaws.{sought_none, sought_more, sought_bad, sought_row, sought_done}
use Rattle.stream_rows.proofs.CellLaws.{heights_length, height_is, row_sought}
use Rattle.stream_rows.proofs.Rows.first_bad_height.Goals as goal
use Rattle.stream_rows.proofs.Rows.first_bad_height.Goals.{then-not-row_finite+else-loop-x-test, else-not-row_finite}

pub rows-init : goal.rows-init
rows-init c = sought_none

pub loop-x-preserved : goal.loop-x-preserved
loop-x-preserved c = let x = c.loop-x-test.true in
    let y = c.if-h-y.false in
    sought_more c.loop-x.invariant (height_is _ _ _ _ x y c.height_at.ensures c.is_finite.ensures) (ap not c.if-not-is_finite.false)

pub rows-preserved : goal.rows-preserved
rows-preserved c =
    elim c.if-not-row_finite.branch [
      | then-not-row_finite+else-loop-x-test w ↦ sought_row w.loop-x.invariant w.loop-x-test.false
      | else-not-row_finite w ↦
          row_sought _ _ _ _ c.if-h-y.false c.rows.invariant c.row_finite.ensures w.if-not-row_finite.false
    ]

pub returns-then-h-y : goal.returns-then-h-y
returns-then-h-y c = no_bad_place _ _ (omega arith) (sought_done c.rows.invariant (heights_length _ _ _ _) c.if-h-y.true)

pub returns-then-not-is_finite : goal.returns-then-not-is_finite
returns-then-not-is_finite c = let x = c.loop-x-test.true in
    let y = c.if-h-y.false in
    bad_place _ _ (cell_lt _ _ _ x _ y) (sought_bad c.loop-x.invariant (height_is _ _ _ _ x y c.height_at.ensures c.is_finite.ensures) (heights_length _ _ _ _) x y (ap not c.if-not-is_finite.true))
