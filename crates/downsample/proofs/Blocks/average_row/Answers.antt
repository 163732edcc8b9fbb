use native.Mathlib.Omega.{arith}
use Rattle.loops.proofs.FillLaws.{filling_none, filling_more, filling_done}
use Rattle.downsample.specs.Firsts.{averages_of}
use Rattle.downsample.proofs.Blocks.average_row.Goals as goal

pub loop-bx-init : goal.loop-bx-init
loop-bx-init c = filling_none

pub loop-bx-preserved : goal.loop-bx-preserved
loop-bx-preserved c = filling_more c.loop-bx.invariant c.average.ensures c.loop-bx-test.true

pub returns : goal.returns
unfolding averages_of
returns c = filling_done c.loop-bx.invariant _ c.requires.row_len (omega arith)
