use native.Mathlib.Omega.{arith}
use Rattle.loops.proofs.FillLaws.{filling_none, filling_more, stored}
use Rattle.upsample_rows.proofs.MixLaws.{across_read}
use Rattle.upsample_rows.proofs.ReducedColumns.mix_row.Goals as goal

pub loop-x-init : goal.loop-x-init
loop-x-init c = filling_none

pub loop-x-preserved : goal.loop-x-preserved
loop-x-preserved c = let a = c.args in
    filling_more c.loop-x.invariant
    (across_read _ _ c.loop-x.x c.loop-x-test.true (rw c.requires.dw_is at a.self.placed) a.delta.v.now a.delta.size.h a.y a.south c.across.ensures) (omega arith)

pub returns : goal.returns
returns c = stored c.loop-x.invariant (omega arith) c.loop-x-test.false
