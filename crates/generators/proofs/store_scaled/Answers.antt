use Rattle.generators.specs.Extents.{scaled_by}
use Rattle.loops.proofs.FillLaws.{filling_none, filling_more}
use Rattle.generators.proofs.ExtentsLaws.{stored_next, stored_done}
use Rattle.generators.proofs.store_scaled.Goals as goal

pub loop-x-init : goal.loop-x-init
loop-x-init c = filling_none

pub loop-x-preserved : goal.loop-x-preserved
loop-x-preserved c = let a = c.args in
    filling_more c.loop-x.invariant (stored_next (scaled_by a.min a.lo a.slope) c.loop-x.invariant c.scaled.ensures) c.loop-x-test.true

pub returns : goal.returns
returns c = stored_done _ c.loop-x.invariant c.loop-x-test.false
