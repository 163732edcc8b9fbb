-- Distances of square cells and of wide ones, by computation.
use mathlib.Core.Path.{refl}
use lib.Ieee.{of_bits, round, add, mul}
use Rattle.square_root.specs.Root.{root_of, nearest_root, whole_root, digits}
use Rattle.grid_spacing.specs.Distances.{SquareDistances, WideColumns}

pub square_distances_lem : SquareDistances
unfolding of_bits round add mul root_of nearest_root whole_root digits
square_distances_lem = refl

pub wide_columns : WideColumns
unfolding of_bits round add mul root_of nearest_root whole_root digits
wide_columns = refl
