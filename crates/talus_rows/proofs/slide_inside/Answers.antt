use native.Mathlib.Omega.{arith}
use lib.ListN.{length-set}
use Rattle.talus.proofs.StepLaws.{cell_below}
use Rattle.talus_rows.proofs.BlockLaws.{cell_still, cell_moved}
use Rattle.talus_rows.proofs.slide_inside.Goals as goal

pub returns-then-total : goal.returns-then-total
returns-then-total c = cell_still _ _ _ _ _ _ _ _ _ c.requires.total_value c.if-total.true

pub offset_bounds-out-c : goal.offset_bounds-out-c
offset_bounds-out-c c = omega (arith, cell_below c.args.cell.at)

pub bounds-out-c : goal.bounds-out-c
bounds-out-c c = omega (arith, cell_below c.args.cell.at)

pub offset_bounds-out-c-2 : goal.offset_bounds-out-c-2
offset_bounds-out-c-2 c = omega (arith, cell_below c.args.cell.at)

pub bounds-out-c-2 : goal.bounds-out-c-2
bounds-out-c-2 c = omega (arith, cell_below c.args.cell.at)

pub gain_around-requires : goal.gain_around-requires
gain_around-requires c = record { out_len = simp length-set c.requires.out_len; inner = λ e. c.requires.inner }

pub returns : goal.returns
returns c = cell_moved _ _ _ _ _ _ _ _ _ c.requires.total_value _ _ c.requires.moved_value c.if-total.false c.gain_around.ensures
