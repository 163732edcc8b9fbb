use native.Mathlib.Omega.{arith}
use Rattle.grid_inner.proofs.InnerLaws.{inner_most}
use Rattle.talus_rows.proofs.PartLaws.{inner_row}
use Rattle.talus_rows.proofs.RowLaws.{row_parts}
use Rattle.talus_rows.proofs.slide_row.Goals as goal

pub overflow_add-last : goal.overflow_add-last
overflow_add-last c = omega (arith, c.requires.in_row, inner_most _ _ _ _ c.inner_cells-n.ensures c.requires.le_w)

pub overflow_add-last-2 : goal.overflow_add-last-2
overflow_add-last-2 c = omega (arith, c.requires.in_row, inner_most _ _ _ _ c.inner_cells-n.ensures c.requires.le_w)

pub overflow_sub-last : goal.overflow_sub-last
overflow_sub-last c = inner_most _ _ _ _ c.inner_cells-n.ensures c.requires.le_w

pub invariant_of-inner : goal.invariant_of-inner
invariant_of-inner c = record { in_row = (inner_row _ _ _ _ c.inner_cells-n.ensures c.requires.le_w c.requires.in_row).row }

pub slide_inner_cells-requires-clause-inner : goal.slide_inner_cells-requires-clause-inner
slide_inner_cells-requires-clause-inner c = inner_row _ _ _ _ c.inner_cells-n.ensures c.requires.le_w c.requires.in_row

pub returns : goal.returns
returns c = row_parts _ _ _ _ _ _ _ _ c.inner_cells-n.result _ _ _ (inner_most _ _ _ _ c.inner_cells-n.ensures c.requires.le_w) c.slide_cells.ensures c.slide_inner_cells.ensures c.slide_cells-2.ensures
