use mathlib.Core.Path.{◌∙◌}
use Rattle.fluvial_erosion.proofs.CellLaws.{along_done}
use Rattle.fluvial_erosion.proofs.incise_narrow.Goals as goal

pub incise_plain-requires : goal.incise_plain-requires
incise_plain-requires c =
    let long = c.copy_heights.auto.out ∙ c.requires.lengths.result in
    record {
      along = rw long c.requires.drains.along;
      width_nonzero = rw (c.incision_of-by.ensures, long) (c.requires.drains.sides.columns, c.requires.lengths.areas);
    }

pub returns : goal.returns
returns c = let a = c.args in along_done c.requires.drains a.params a.ds a.area.now a.hmap.now c.incision_of-by.ensures c.requires.lengths.heights c.copy_heights.ensures c.incise_plain.ensures
