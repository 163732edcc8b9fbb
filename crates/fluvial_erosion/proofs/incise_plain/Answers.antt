use Rattle.fluvial_erosion.proofs.CellLaws.{cell_of_lem, incising_none, incising_more, incising_done}
use Rattle.fluvial_erosion.proofs.incise_plain.Goals as goal

pub loop-c-init : goal.loop-c-init
loop-c-init c = incising_none

pub incise_cell-requires : goal.incise_cell-requires
incise_cell-requires c = record { cell_of = cell_of_lem c.requires.along c.requires.width_nonzero.1 c.loop-c.invariant.long _ c.loop-c-test.true; width_nonzero = c.requires.width_nonzero.0 }

pub loop-c-preserved : goal.loop-c-preserved
loop-c-preserved c = incising_more c.loop-c.invariant c.loop-c-test.true c.incise_cell.ensures

pub shape_of-out : goal.shape_of-out
shape_of-out c = c.loop-c.invariant.long

pub returns : goal.returns
returns c = incising_done c.loop-c.invariant c.loop-c-test.false
