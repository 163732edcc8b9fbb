-- The examples of specs/Examples.antt, by computation.
use mathlib.Core.Path.{refl}
use lib.Ieee.{of_bits, of_int, round, add, sub, mul, div, lt, le, eq}
use Rattle.loops.specs.Loops.{turns}
use Rattle.loops.specs.Firsts.{first_failing}
use Rattle.grid.specs.Directions.{neighbour_of}
use Rattle.grid.specs.Heights.{first_not_finite, all_finite}
use Rattle.generators.specs.Marks.{report_of}
use Rattle.talus.specs.Talus.{shed_to, shed_step, shed_of, gain_to, gain_step, gains_of, slide_cell, slide_row}
use Rattle.thermal_erosion.specs.SlidePass.{rows_of}
use Rattle.thermal_erosion.specs.OverPass.{bad_thresholds}
use Rattle.plates.specs.Examples.{SlideExamples}

pub slide_examples : SlideExamples
unfolding of_bits of_int round add sub mul div lt le eq turns first_failing neighbour_of first_not_finite all_finite report_of shed_to shed_step shed_of gain_to gain_step gains_of slide_cell slide_row rows_of bad_thresholds
slide_examples = (refl, (refl, (refl, (refl, (refl, (refl, (refl, tt)))))))
