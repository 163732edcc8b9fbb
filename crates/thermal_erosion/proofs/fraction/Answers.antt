use native.Mathlib.Omega.{arith}
use Rattle.floats.proofs.WholeLaws.{float_in}
use Rattle.thermal_erosion.proofs.fraction.Goals as goal

pub int_to_float-result : goal.int_to_float-result
int_to_float-result c = float_in _ (omega (arith, c.requires.y_bound))

pub int_to_float-result-2 : goal.int_to_float-result-2
int_to_float-result-2 c = float_in _ (omega (arith, c.requires.h_bound))
