use Prim.Native.Nat.{max}
use mathlib.Core.Path.{ap, ◌∙◌}
use native.Mathlib.Omega.{arith}
use lib.Ieee.{Float, to_unsigned}
use Rattle.floats.proofs.WholeLaws.{float_in}
use Rattle.resample.specs.WorkSize.{scaled_side}
use Rattle.resample.proofs.scaled_side.Goals as goal

pub int_to_float-side : goal.int_to_float-side
int_to_float-side c = float_in _ (omega (arith, c.requires))

pub returns : goal.returns
unfolding scaled_side
returns c = c.to_count.ensures ∙ ap (λ (x : Float). max (to_unsigned 64 x) 1) c.round.ensures
