-- The plates of specs/Plates.antt, by computation.
use mathlib.Core.Path.{refl}
use lib.Ieee.{of_bits, to_bits, of_int, round, add, sub, mul, div, lt, le, to_unsigned}
use Rattle.loops.specs.Loops.{turns, tabulate}
use Rattle.floats.specs.Stand.{whole_by}
use Rattle.grid.specs.Directions.{neighbour_of}
use Rattle.grid.specs.Heights.{first_not_finite, all_finite}
use Rattle.square_root.specs.Root.{root_of, nearest_root, whole_root, digits}
use Rattle.generators.specs.Marks.{report_of}
use Rattle.drainage.specs.Flood.{flood_start, flood_step, least_waiting, push_all, flood_after}
use Rattle.drainage.specs.Receivers.{receivers, receiver_of, steepest_of, direction_to}
use Rattle.loops.specs.Counts.{times}
use Rattle.drainage.specs.Ways.{areas_along}
use Rattle.loops.specs.Firsts.{first_failing}
use Rattle.lent_receivers.specs.Receivers.{good_receiver}
use Rattle.lent_list.specs.Entries.{good_entry}
use Rattle.fluvial_erosion.specs.Incision.{incised_by, incise_along}
use Rattle.talus.specs.Talus.{shed_to, shed_step, shed_of, gain_to, gain_step, gains_of, slide_cell, slide_row}
use Rattle.thermal_erosion.specs.SlidePass.{rows_of}
use Rattle.resample.specs.WorkSize.{work_size, scaled_side}
use Rattle.resample.specs.Blocks.{row_sum, block_sum, average_of, downsampled}
use Rattle.bilinear.specs.Samples.{bilinear_of}
use Rattle.upsample.specs.Samples.{added_of}
use Rattle.plates.specs.Plates.{AllPlates}

pub all_plates : AllPlates
unfolding of_bits to_bits of_int round add sub mul div lt le to_unsigned turns tabulate whole_by neighbour_of first_not_finite all_finite root_of nearest_root whole_root digits report_of flood_start flood_step least_waiting push_all flood_after receivers receiver_of steepest_of direction_to areas_along times first_failing good_receiver good_entry incised_by incise_along shed_to shed_step shed_of gain_to gain_step gains_of slide_cell slide_row rows_of work_size scaled_side row_sum block_sum average_of downsampled bilinear_of added_of
all_plates = (refl, (refl, (refl, (refl, (refl, (refl, (refl, (refl, (refl, (refl, (refl, (refl, (refl, tt)))))))))))))
