use native.Mathlib.Omega.{arith}
use Rattle.receiver_steps.proofs.PlaceLaws.{place_holds}
use Rattle.receiver_blocks.proofs.OffsetLaws.{slope_read}
use Rattle.receiver_blocks.proofs.discoverer_slope.Goals as goal

pub offset_bounds-tables-place : goal.offset_bounds-tables-place
offset_bounds-tables-place c = omega (arith, c.step_place-place.ensures, (place_holds c.requires.near c.args.tables.now.distances c.requires.le_width).0)

pub bounds-tables-place : goal.bounds-tables-place
bounds-tables-place c = omega (arith, c.step_place-place.ensures, (place_holds c.requires.near c.args.tables.now.distances c.requires.le_width).0)

pub returns : goal.returns
returns c = slope_read _ _ c.args.spill.now.heights.now _ _ c.requires.near c.requires.le_width _ _ c.args.tables.now.placed c.step_place-place.ensures
