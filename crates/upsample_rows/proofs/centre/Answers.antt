use mathlib.Core.Path.{◌∙◌}
use native.Mathlib.Omega.{arith}
use Rattle.floats.proofs.WholeLaws.{float_in}
use Rattle.upsample_rows.proofs.centre.Goals as goal

pub ratio-coef-requires : goal.ratio-coef-requires
ratio-coef-requires c = record { a_bound = omega (arith, c.requires.small); b_bound = omega (arith, c.requires.full) }

pub int_to_float-x : goal.int_to_float-x
int_to_float-x c = float_in _ (omega (arith, c.requires.full, c.requires.inside))

pub returns : goal.returns
returns c = c.max.ensures ∙ rw c.ratio-coef.ensures
