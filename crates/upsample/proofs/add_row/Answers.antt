use mathlib.Core.Path.{refl}
use Rattle.loops.proofs.FillLaws.{filling_none, filling_more, filling_done}
use Rattle.upsample.specs.Samples.{summed_row}
use Rattle.upsample.proofs.RowLaws.{sum_next}
use Rattle.upsample.proofs.add_row.Goals as goal

pub loop-x-init : goal.loop-x-init
loop-x-init c = filling_none

pub loop-x-preserved : goal.loop-x-preserved
loop-x-preserved c = let a = c.args in filling_more c.loop-x.invariant (sum_next a.north.now a.south.now a.dy c.loop-x.invariant c.mixed.ensures) c.loop-x-test.true

pub returns : goal.returns
unfolding summed_row
returns c = filling_done c.loop-x.invariant _ refl c.loop-x-test.false
