use native.Mathlib.Omega.{arith}
use Rattle.talus_rows.proofs.PartLaws.{inner_part}
use Rattle.talus_rows.proofs.RowLaws.{cells_none, cells_end, cells_block}
use Rattle.talus_rows.proofs.slide_inner_cells.Goals as goal

pub loop-i-init : goal.loop-i-init
loop-i-init c = cells_none _ _ _ _ _ _ _ _ _ _

pub invariant_of-slide_block : goal.invariant_of-slide_block
invariant_of-slide_block c = record { inner = inner_part c.loop-i.i c.min.result c.requires.inner (omega (arith, c.min.ensures)); few = omega (arith, c.min.ensures) }

pub loop-i-preserved : goal.loop-i-preserved
loop-i-preserved c = cells_block _ _ _ _ _ _ _ _ _ c.loop-i.i _ _ _ _ c.loop-i.invariant c.loop-i-test.true c.min.ensures c.slide_block.ensures

pub returns : goal.returns
returns c = cells_end _ _ _ _ _ _ _ _ _ _ _ _ c.loop-i.invariant c.loop-i-test.false

pub returns-2 : goal.returns-2
returns-2 c = cells_end _ _ _ _ _ _ _ _ _ _ _ _ (cells_block _ _ _ _ _ _ _ _ _ c.loop-i.i _ _ _ _ c.loop-i.invariant c.loop-i-test.true c.min.ensures c.slide_block.ensures) (omega arith)
