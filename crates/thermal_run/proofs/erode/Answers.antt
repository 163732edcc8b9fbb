use mathlib.Core.Path.{sym, ◌∙◌}
use lib.Seq.{length-take-le}
use Rattle.grid.proofs.SidesLaws.{range_fit}
use Rattle.run_plans.proofs.InputLaws.{within_range}
use Rattle.run_parts.proofs.WholeLaws.{whole_on_map}
use Rattle.thermal_run.proofs.RunLaws.{small_room, eroded_room, copy_room, erodes_slides, erodes_reduces}
use Rattle.thermal_run.proofs.erode.Goals as goal

pub overflow_mul-m : goal.overflow_mul-m
overflow_mul-m c = range_fit (within_range c.requires.sides)

pub slide_passes-requires : goal.slide_passes-requires
slide_passes-requires c = erodes_slides c.requires c.on_map.ensures c.if-on_map.true (length-take-le _ _ (copy_room c.requires))

pub returns-then-on_map : goal.returns-then-on_map
returns-then-on_map c = whole_on_map _ _ _ _ (sym c.on_map.ensures ∙ c.if-on_map.true) c.slide_passes.ensures

pub erode_reduced-requires : goal.erode_reduced-requires
erode_reduced-requires c = record { h_value = sym c.on_map.ensures ∙ c.if-on_map.false; thermal_reduces = erodes_reduces c.requires (length-take-le _ _ (small_room c.requires)) (length-take-le _ _ (eroded_room c.requires)) (length-take-le _ _ (copy_room c.requires)) }
