use native.Mathlib.Omega.{arith}
use Rattle.loops.proofs.FillLaws.{filling_none, filling_more, filling_done}
use Rattle.stream_rows.specs.Rows.{row_heights}
use Rattle.stream_rows.proofs.Rows.read_row.Goals as goal

pub loop-x-init : goal.loop-x-init
loop-x-init c = filling_none

pub loop-x-preserved : goal.loop-x-preserved
loop-x-preserved c = filling_more c.loop-x.invariant c.height_at.ensures c.loop-x-test.true

pub returns : goal.returns
unfolding row_heights
returns c = filling_done c.loop-x.invariant _ c.requires.row_len (omega (arith, c.requires.row_len, c.loop-x-test.false))
