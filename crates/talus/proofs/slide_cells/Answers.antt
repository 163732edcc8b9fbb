use mathlib.Core.Path.{◌∙◌}
use Rattle.talus.specs.Talus.{slide_cells}
use Rattle.talus.proofs.RowLaws.{passing_none, passing_more, passing_done}
use Rattle.talus.proofs.slide_cells.Goals as goal

pub loop-i-init : goal.loop-i-init
loop-i-init c = passing_none

pub slide_cell-requires : goal.slide_cell-requires
slide_cell-requires c = rw c.cell.ensures.map (c.loop-i.invariant.long ∙ c.requires)

pub loop-i-preserved : goal.loop-i-preserved
loop-i-preserved c = passing_more c.loop-i.invariant c.loop-i-test.true c.slide_cell.auto.out (c.slide_cell.ensures ∙ rw (c.cell.ensures.map, c.cell.ensures.c))

pub returns : goal.returns
unfolding slide_cells
returns c = passing_done c.loop-i.invariant c.loop-i-test.false
