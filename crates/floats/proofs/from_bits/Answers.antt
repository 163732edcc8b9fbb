use Rattle.std.proofs.Common.{sym}
use lib.Ieee.{div, of_bits}
use Rattle.floats.proofs.BitsLaws.{nan_pattern, no_nan_pattern}
use Rattle.floats.proofs.from_bits.Goals as goal

pub returns-then-b-gt2139095040 : goal.returns-then-b-gt2139095040
unfolding div of_bits
returns-then-b-gt2139095040 c = sym (nan_pattern _ c.if-b-gt2139095040.true)

pub float_from_bits-result : goal.float_from_bits-result
float_from_bits-result c = no_nan_pattern _ c.if-b-gt2139095040.false
