use Rattle.std.proofs.Common.{get_or, sym, ◌∙◌, true≢false, le-leb, eq-eqb, ne_eqb, arith}
use Rattle.loops.proofs.PlaceLaws.{searched_at, searched_none}
use Rattle.lent_list.proofs.SegmentLaws.{walk_none, walk_outside, walk_done, whole_twice, whole_early, whole_more}
use Rattle.lent_list_marks.proofs.SeenLaws.{bytes_none, put_byte}
use Rattle.lent_list.proofs.first_in_bytes.Goals as goal
use Rattle.lent_list.proofs.first_in_bytes.Goals.{then-n-c, else-n-c}

pub loop-p-init : goal.loop-p-init
loop-p-init c = walk_none (bytes_none c.requires.blank)

pub returns-then-bad : goal.returns-then-bad
returns-then-bad c = elim c.if-n-c.branch [
  | then-n-c w ↦ searched_at (walk_outside c.loop-p.invariant w.if-n-c.true) c.loop-p-test.true
  | else-n-c w ↦ searched_at (whole_twice c.loop-p.invariant w.if-n-c.false (sym w.bad-is ∙ c.if-bad.true)) c.loop-p-test.true
]

pub returns-then-seen-recv-ne1 : goal.returns-then-seen-recv-ne1
returns-then-seen-recv-ne1 c = elim c.if-n-c.branch [
  | then-n-c w ↦ absurd (true≢false (sym (le-leb _ _ w.if-n-c.true) ∙ sym w.bad-is ∙ c.if-bad.false))
  | else-n-c w ↦
      let put = put_byte c.loop-p.seen (get_or c.args.list.now c.loop-p.p 0) (omega (arith, w.if-n-c.false, c.requires.blank.enough)) in
      searched_at (whole_early c.loop-p.invariant w.if-n-c.false put (c.requires.list_lengths.inside _ w.if-n-c.false) (ne_eqb _ 1 c.if-seen-recv-ne1.true)) c.loop-p-test.true
]

pub loop-p-preserved : goal.loop-p-preserved
loop-p-preserved c = elim c.if-n-c.branch [
  | then-n-c w ↦ absurd (true≢false (sym (le-leb _ _ w.if-n-c.true) ∙ sym w.bad-is ∙ c.if-bad.false))
  | else-n-c w ↦
      let put = put_byte c.loop-p.seen (get_or c.args.list.now c.loop-p.p 0) (omega (arith, w.if-n-c.false, c.requires.blank.enough)) in
      whole_more c.loop-p.invariant w.if-n-c.false put c.loop-p-test.true c.requires.list_lengths.entries (sym w.bad-is ∙ c.if-bad.false) (eq-eqb _ 1 c.if-seen-recv-ne1.false)
]

pub returns : goal.returns
returns c = searched_none (walk_done c.loop-p.invariant c.loop-p-test.false) (omega arith)
