use Rattle.std.proofs.Common.{arith}
use Rattle.loops.proofs.PlaceLaws.{searched_by, searched_only}
use Rattle.lent_list.proofs.SegmentLaws.{segments_none, segments_cells, segments_at, segments_next, segments_done}
use Rattle.lent_list.proofs.first_by_bits.Goals as goal

pub loop-lo-init : goal.loop-lo-init
loop-lo-init c = searched_by (λ f s. segments_none s) c.first_outside-bad.ensures

pub first_in_segment-requires-clause-cells_before : goal.first_in_segment-requires-clause-cells_before
first_in_segment-requires-clause-cells_before c = segments_cells (segments_at c.loop-lo.invariant c.unwrap_or.ensures)

pub loop-lo-preserved : goal.loop-lo-preserved
loop-lo-preserved c = segments_next c.loop-lo.invariant c.requires.within_overlap c.unwrap_or.ensures c.first_in_segment.ensures c.or-bad.ensures

pub returns : goal.returns
returns c = searched_only (λ f s. segments_done s c.loop-lo-test.false) c.loop-lo.invariant

pub returns-2 : goal.returns-2
returns-2 c = searched_only (λ f s. segments_done s (omega arith)) (segments_next c.loop-lo.invariant c.requires.within_overlap c.unwrap_or.ensures c.first_in_segment.ensures c.or-bad.ensures)
