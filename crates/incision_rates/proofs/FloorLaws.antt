-- The floor of areas, by computation.
use mathlib.Core.Path.{refl}
use lib.Ieee.{of_bits, of_int, round, mul, div, le}
use Rattle.square_root.specs.Root.{root_of, nearest_root, whole_root, digits}
use Rattle.incision_rates.specs.Rate.{FloorExample}

pub floor_example : FloorExample
unfolding of_bits of_int round mul div le root_of nearest_root whole_root digits
floor_example = refl
