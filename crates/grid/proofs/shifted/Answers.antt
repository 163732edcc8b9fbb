use Rattle.grid.proofs.ShiftedLaws.{sum_fits, moved_casts, moved_below, moved_inside, moved_past}
use Rattle.grid.proofs.shifted.Goals as goal

pub overflow_add-moved : goal.overflow_add-moved
overflow_add-moved c = sum_fits c.requires

pub returns-then-moved-lt0 : goal.returns-then-moved-lt0
returns-then-moved-lt0 c = moved_below c.requires c.if-moved-lt0.true

pub overflow_cast-to : goal.overflow_cast-to
overflow_cast-to c = moved_casts c.requires c.if-moved-lt0.false

pub returns-then-to-side : goal.returns-then-to-side
returns-then-to-side c = moved_inside c.requires c.if-moved-lt0.false c.if-to-side.true

pub returns : goal.returns
returns c = moved_past c.requires c.if-moved-lt0.false c.if-to-side.false
