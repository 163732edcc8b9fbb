use lib.Ieee.{of_bits, nan_bits}
use mathlib.Core.Path.{◌∙◌}
use Rattle.floats.proofs.FiniteLaws.{above_low, not_above_low}
use Rattle.floats.proofs.is_finite.Goals as goal

pub float_from_bits-t-3 : goal.float_from_bits-t-3
unfolding nan_bits
float_from_bits-t-3 c = tt

pub float_from_bits-result : goal.float_from_bits-result
unfolding nan_bits
float_from_bits-result c = tt

pub returns-then-x : goal.returns-then-x
unfolding of_bits
returns-then-x c = above_low _ c.if-x.true

pub returns-else-x : goal.returns-else-x
unfolding of_bits
returns-else-x c = c.if-x.false ∙ not_above_low _ c.if-x.false
