use Rattle.std.proofs.Common.{arith}
use Rattle.loops.proofs.PlaceLaws.{searched_some}
use Rattle.lent_list.proofs.BlockLaws.{whole_block, taken_block, block_some, block_none}
use Rattle.lent_list.proofs.first_in_some.Goals as goal

pub returns-in_err-i : goal.returns-in_err-i
returns-in_err-i c =
    let b = whole_block (omega (arith, c.if-recv-le-SEGMENT.true)) c.requires.walk.place c.requires.cells_before c.requires.inside in
    rw (c.from_residual.ensures, c.if-lo-eq0.true) (block_none b _ c.requires.span_in_bounds (rw c.if-lo-eq0.true at c.requires.walk) c.first_in_cells.ensures.first c.in_err-i.was c.first_in_cells.ensures.marks)

pub returns-then-recv-le-SEGMENT : goal.returns-then-recv-le-SEGMENT
returns-then-recv-le-SEGMENT c =
    let b = whole_block (omega (arith, c.if-recv-le-SEGMENT.true)) c.requires.walk.place c.requires.cells_before c.requires.inside in
    rw c.if-lo-eq0.true (block_some b _ c.requires.span_in_bounds (rw c.if-lo-eq0.true at c.requires.walk) c.first_in_cells.ensures.first c.in_ok-i.was (omega arith))

pub returns-in_err-i-2 : goal.returns-in_err-i-2
returns-in_err-i-2 c =
    let b = taken_block c.requires.cells_before c.requires.inside c.cells_in-k.ensures (omega (arith, c.cells_in-k.ensures.picked.few)) in
    rw c.from_residual-in_err-i-2.ensures (block_none b _ c.requires.span_in_bounds c.requires.walk c.first_in_cells-2.ensures.first c.in_err-i-2.was c.first_in_cells-2.ensures.marks)

pub returns : goal.returns
returns c =
    let b = taken_block c.requires.cells_before c.requires.inside c.cells_in-k.ensures (omega (arith, c.cells_in-k.ensures.picked.few)) in
    block_some b _ c.requires.span_in_bounds c.requires.walk c.first_in_cells-2.ensures.first c.in_ok-i-2.was (c.position_in.ensures _ _ b.picked (searched_some c.first_in_cells-2.ensures.first c.in_ok-i-2.was).1)
