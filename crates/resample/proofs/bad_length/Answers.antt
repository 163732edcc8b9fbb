use native.Mathlib.Omega.{arith}
use Rattle.grid.proofs.SidesLaws.{cells_bound}
use Rattle.resample.proofs.bad_length.Goals as goal

pub overflow_mul-result : goal.overflow_mul-result
overflow_mul-result c = omega (arith, cells_bound _ _ c.requires.w_bound c.requires.h_bound)
