use lib.Ieee.{of_bits}
use Rattle.floats.proofs.ValueLaws.{holds}
use Rattle.floats.proofs.WholeLaws.{ceil_of_up, ceil_of_same}
use Rattle.floats.proofs.ceil.Goals as goal

pub returns-then-t-x : goal.returns-then-t-x
unfolding of_bits
returns-then-t-x c = ceil_of_up _ _ (holds c.well_formed.0.1) c.trunc-t.ensures c.if-t-x.true

pub returns-else-t-x : goal.returns-else-t-x
returns-else-t-x c = ceil_of_same _ _ (holds c.well_formed.0.1) c.trunc-t.ensures c.if-t-x.false
