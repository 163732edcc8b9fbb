use native.Mathlib.Omega.{arith}
use Rattle.floats.proofs.BitsLaws.{no_nan_pattern}
use Rattle.receiver_steps.proofs.StepLaws.{step_back}
use Rattle.areas.proofs.word_with.Goals as goal

pub overflow_add-result : goal.overflow_add-result
overflow_add-result c = omega (arith, (step_back c.requires.near c.requires.columns).small, c.step_of.ensures, c.requires.few)

pub float_from_bits-result : goal.float_from_bits-result
float_from_bits-result c = no_nan_pattern _ (omega (arith, (step_back c.requires.near c.requires.columns).small, c.step_of.ensures, c.requires.few))
