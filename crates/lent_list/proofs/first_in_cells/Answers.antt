use Rattle.std.proofs.Common.{below_more, arith}
use Rattle.loops.proofs.LoopLaws.{at_end}
use Rattle.loops.proofs.FirstLaws.{first_stop, first_end}
use Rattle.loops.proofs.PlaceLaws.{searched_at, searched_none}
use Rattle.loops.proofs.TableLaws.{filled_read}
use Rattle.lent_list_blocks.specs.Blocks.{receiver_at}
use Rattle.lent_list.specs.Walks.{marked_by}
use Rattle.lent_list.proofs.BlockLaws.{marked_none, marked_more, good_is, receiver_within}
use Rattle.lent_list.proofs.first_in_cells.Goals as goal
use Rattle.lent_list.proofs.first_in_cells.Goals.{In-loop-i}

pub loop-i-init : goal.loop-i-init
loop-i-init g c = (marked_none _ _ _, λ i l. absurd (omega arith))

pub bad_in_segment-requires-clause-r_value : goal.bad_in_segment-requires-clause-r_value
bad_in_segment-requires-clause-r_value g c = λ e. receiver_within (c.requires.receivers_in e) c.requires.cells_in c.loop-i-test.true (filled_read _ _ _ c.receivers_of_cells.ensures _ 0 c.loop-i-test.true)

pub returns-then-bad_in_segment-clause-first : goal.returns-then-bad_in_segment-clause-first
returns-then-bad_in_segment-clause-first g c =
    let good = good_is _ _ _ _ c.loop-i.invariant.0 c.bad_in_segment.ensures.put c.args.recv.now (filled_read (receiver_at c.args.recv.now c.args.cells.now) _ _ c.receivers_of_cells.ensures _ 0 c.loop-i-test.true) c.bad_in_segment.ensures.verdict in
    searched_at (first_stop c.loop-i.invariant.1 c.loop-i.auto.i-end (rw c.if-bad_in_segment.true at good)) c.loop-i-test.true

pub loop-i-preserved : goal.loop-i-preserved
loop-i-preserved g c =
    let good = good_is _ _ _ _ c.loop-i.invariant.0 c.bad_in_segment.ensures.put c.args.recv.now (filled_read (receiver_at c.args.recv.now c.args.cells.now) _ _ c.receivers_of_cells.ensures _ 0 c.loop-i-test.true) c.bad_in_segment.ensures.verdict in
    (marked_more _ _ _ _ c.loop-i.invariant.0 c.bad_in_segment.ensures.put, below_more _ _ c.loop-i.invariant.1 (rw c.if-bad_in_segment.false at good))

pub returns : goal.returns
returns g c =
    record {
      first = searched_none (first_end (λ j l. c.loop-i.invariant.1 j (omega (arith, c.loop-i-test.false)))) (omega arith);
      marks = λ _. at_end (marked_by c.args.lo c.args.cells.now c.args.seen.now) c.loop-i.invariant.0 c.loop-i.auto.i-end c.loop-i-test.false;
    }
