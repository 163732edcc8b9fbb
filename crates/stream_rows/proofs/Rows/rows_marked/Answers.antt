use mathlib.Core.Path.{sym, ap}
use mathlib.Core.Bool.{not}
use Rattle.loops.proofs.LoopLaws.{at_end}
use Rattle.stream_rows.specs.Rows.{rows_marked}
use Rattle.stream_rows.proofs.RowLaws.{marked_none, marked_not, marked_more}
use Rattle.stream_rows.proofs.Rows.rows_marked.Goals as goal

pub loop-y-init : goal.loop-y-init
loop-y-init c = marked_none _ _ _

pub returns-then-not-has_mark : goal.returns-then-not-has_mark
returns-then-not-has_mark c = marked_not _ _ _ _ c.row_at.ensures c.has_mark.ensures c.loop-y-test.true (ap not c.if-not-has_mark.true)

pub loop-y-preserved : goal.loop-y-preserved
loop-y-preserved c = marked_more _ _ _ _ c.row_at.ensures c.has_mark.ensures c.loop-y.invariant (ap not c.if-not-has_mark.false)

pub returns : goal.returns
returns c = let r = c.args.self.now in
    at_end (rows_marked r.bytes.now r.at r.size.w) (sym c.loop-y.invariant) c.loop-y.auto.y-end c.loop-y-test.false
