use Rattle.fluvial_loop.proofs.SlideLaws.{count_float}
use Rattle.fluvial_loop.proofs.pass_begins.Goals as goal

pub int_to_float-result : goal.int_to_float-result
int_to_float-result c = count_float _ c.requires.iteration

pub int_to_float-result-2 : goal.int_to_float-result-2
int_to_float-result-2 c = count_float _ c.requires.passed

pub int_to_float-result-3 : goal.int_to_float-result-3
int_to_float-result-3 c = count_float _ c.requires.passes

pub int_to_float-result-4 : goal.int_to_float-result-4
int_to_float-result-4 c = count_float _ c.requires.iterations
