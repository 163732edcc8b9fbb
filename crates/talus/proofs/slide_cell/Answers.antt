use native.Mathlib.Omega.{arith}
use lib.ListN.{length-set}
use Rattle.talus.proofs.StepLaws.{cell_below, any_cell}
use Rattle.talus.proofs.CellLaws.{slide_under, slide_still, slide_moved}
use Rattle.talus.proofs.slide_cell.Goals as goal

pub offset_bounds-cell-c : goal.offset_bounds-cell-c
offset_bounds-cell-c c = omega (arith, cell_below c.args.cell.at)

pub bounds-cell-c : goal.bounds-cell-c
bounds-cell-c c = omega (arith, cell_below c.args.cell.at)

pub returns-then-cell-c : goal.returns-then-cell-c
returns-then-cell-c c = slide_under _ _ _ _ _ _ _ _ c.if-cell-c.true

pub shed_around-s-requires : goal.shed_around-s-requires
shed_around-s-requires c = any_cell

pub returns-then-s : goal.returns-then-s
returns-then-s c = slide_still _ _ _ _ _ _ _ _ _ c.shed_around-s.ensures c.if-cell-c.false c.if-s.true

pub offset_bounds-out-c : goal.offset_bounds-out-c
offset_bounds-out-c c = omega (arith, cell_below c.args.cell.at)

pub bounds-out-c : goal.bounds-out-c
bounds-out-c c = omega (arith, cell_below c.args.cell.at)

pub offset_bounds-out-c-2 : goal.offset_bounds-out-c-2
offset_bounds-out-c-2 c = omega (arith, cell_below c.args.cell.at)

pub bounds-out-c-2 : goal.bounds-out-c-2
bounds-out-c-2 c = omega (arith, cell_below c.args.cell.at)

pub gain_around-requires : goal.gain_around-requires
gain_around-requires c = record { out_len = simp length-set c.requires; inner = any_cell }

pub returns : goal.returns
returns c = slide_moved _ _ _ _ _ _ _ _ _ c.shed_around-s.ensures c.if-cell-c.false _ c.if-s.false c.gain_around.ensures
