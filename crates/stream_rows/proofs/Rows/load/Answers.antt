use native.Mathlib.Omega.{arith}
use Rattle.loops.proofs.FillLaws.{filling_start, filling_rows}
use Rattle.stream_rows.specs.Rows.{heights_at}
use Rattle.stream_rows.proofs.CellLaws.{row_inside, rows_more}
use Rattle.stream_rows.proofs.Rows.load.Goals as goal

pub loop-y-init : goal.loop-y-init
loop-y-init c = filling_start _

pub loop-y-preserved : goal.loop-y-preserved
loop-y-preserved c = let l = c.loop-y-test.true in
    rows_more _ _ _ c.loop-y.y c.loop-y.invariant (omega (arith, row_inside c.args.self.now.framed l, c.requires)) c.read_row.ensures

pub returns : goal.returns
unfolding heights_at
returns c = filling_rows _ c.loop-y.invariant c.requires c.loop-y-test.false
