use Rattle.grid.proofs.SidesLaws.{range_fit}
use Rattle.fluvial_erosion.proofs.CellLaws.{cells_float}
use Rattle.fluvial_erosion.proofs.incision_of.Goals as goal

pub overflow_mul-result : goal.overflow_mul-result
overflow_mul-result c = range_fit c.requires

pub int_to_float-result : goal.int_to_float-result
int_to_float-result c = cells_float c.requires
