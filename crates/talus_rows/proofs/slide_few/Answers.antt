use mathlib.Core.Path.{◌∙◌}
use Rattle.talus.specs.Talus.{slide_cells}
use Rattle.talus.proofs.RowLaws.{passing_none, passing_more, passing_done}
use Rattle.talus_rows.proofs.PartLaws.{inner_cell_is}
use Rattle.talus_rows.proofs.slide_few.Goals as goal

pub loop-i-init : goal.loop-i-init
loop-i-init c = passing_none

pub slide_inside-requires-clause-inner : goal.slide_inside-requires-clause-inner
slide_inside-requires-clause-inner c = inner_cell_is c.args.block.inner c.loop-i-test.true c.cell.ensures.map c.cell.ensures.c

pub loop-i-preserved : goal.loop-i-preserved
loop-i-preserved c = passing_more c.loop-i.invariant c.loop-i-test.true c.slide_inside.auto.out (c.slide_inside.ensures ∙ rw (c.cell.ensures.map, c.cell.ensures.c))

pub returns : goal.returns
unfolding slide_cells
returns c = passing_done c.loop-i.invariant c.loop-i-test.false
