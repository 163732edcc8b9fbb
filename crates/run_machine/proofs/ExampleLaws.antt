-- The examples of a plan and of runs, by computation.
use mathlib.Core.Path.{refl}
use lib.Ieee.{of_bits, to_bits, of_int, round, add, sub, mul, div, lt, le, to_unsigned}
use Rattle.loops.specs.Loops.{turns, tabulate}
use Rattle.floats.specs.Stand.{whole_by, ceil_of}
use Rattle.grid.specs.Directions.{neighbour_of}
use Rattle.grid.specs.Heights.{first_not_finite, all_finite}
use Rattle.square_root.specs.Root.{root_of, nearest_root, whole_root, digits}
use Rattle.generators.specs.Marks.{report_of}
use Rattle.drainage.specs.Flood.{flood_start, flood_step, least_waiting, push_all, flood_after}
use Rattle.drainage.specs.Receivers.{receivers, receiver_of, steepest_of, direction_to}
use Rattle.drainage.specs.Ways.{areas_along}
use Rattle.fluvial_erosion.specs.Incision.{incised_by, incise_along}
use Rattle.talus.specs.Talus.{shed_to, shed_step, shed_of, gain_to, gain_step, gains_of, slide_cell, slide_row}
use Rattle.resample.specs.WorkSize.{work_size, scaled_side}
use Rattle.resample.specs.Blocks.{downsampled, average_of}
use Rattle.upsample.specs.Samples.{added_of}
use Rattle.run_machine.specs.Machine as Machine
use Rattle.run_machine.specs.Machine.{after}
use Rattle.run_machine.specs.Run.{run_by, thermal_run, incision_by, difference_of}
use Rattle.run_machine.specs.Examples.{PlanExamples, RunExamples}

pub plan_examples : PlanExamples
unfolding of_bits to_bits of_int round add sub mul div to_unsigned ceil_of
plan_examples = record {
  scale = refl;
  k = refl;
  threshold = refl;
  passes = refl;
  plan = refl;
  no_iterations = refl;
  thermal_params_lem = refl;
  fluvial_parts = refl;
  thermal_parts = refl;
  openings = refl;
  first_passes = refl;
  second_passes = refl;
  of_three_passes = refl;
  thermal_passes_lem = refl;
  thermal_ends = refl;
}

pub run_examples : RunExamples
unfolding run_by thermal_run difference_of added_of of_bits to_bits of_int round add sub mul div lt le to_unsigned turns tabulate ceil_of whole_by neighbour_of first_not_finite all_finite root_of nearest_root whole_root digits report_of flood_start flood_step least_waiting push_all flood_after receivers receiver_of steepest_of direction_to areas_along incised_by incise_along incision_by shed_to shed_step shed_of gain_to gain_step gains_of slide_cell slide_row work_size scaled_side downsampled average_of after Machine.step
run_examples = record { column = refl; slope = refl; reduced = refl; own_list = refl; lent_list = refl }
