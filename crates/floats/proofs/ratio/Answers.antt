use Rattle.floats.proofs.WholeLaws.{float_in}
use Rattle.floats.proofs.ratio.Goals as goal

pub int_to_float-result : goal.int_to_float-result
int_to_float-result c = float_in _ c.requires.a_bound

pub int_to_float-result-2 : goal.int_to_float-result-2
int_to_float-result-2 c = float_in _ c.requires.b_bound
