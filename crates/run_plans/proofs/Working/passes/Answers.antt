use native.Mathlib.Omega.{arith}
use Rattle.floats.proofs.WholeLaws.{float_in}
use Rattle.run_plans.proofs.Working.passes.Goals as goal

pub int_to_float-iterations : goal.int_to_float-iterations
int_to_float-iterations c = float_in _ (omega (arith, c.requires))
