use Rattle.std.proofs.Common.{sym, ◌∙◌, arith, below_none, below_more}
use borrow.Author.Tests.{not-true, not-false}
use Rattle.loops.proofs.FirstLaws.{first_stop, first_end}
use Rattle.loops.proofs.PlaceLaws.{searched_at, searched_none}
use Rattle.lent_receivers.proofs.RowLaws.{row_good}
use Rattle.lent_receivers.proofs.Receivers.first_in_row.Goals as goal

pub returns-then-row_passes : goal.returns-then-row_passes
returns-then-row_passes c = searched_none (row_good _ _ _ _ c.requires c.row_passes.ensures c.if-row_passes.true) (omega arith)

pub loop-x-init : goal.loop-x-init
loop-x-init c = (omega arith, below_none _)

pub returns-then-bad_receiver : goal.returns-then-bad_receiver
returns-then-bad_receiver c = searched_at (first_stop c.loop-x.invariant.1 c.loop-x.invariant.0 (not-true _ (sym c.bad_receiver.ensures ∙ c.if-bad_receiver.true))) c.loop-x-test.true

pub loop-x-preserved : goal.loop-x-preserved
loop-x-preserved c = (omega (arith, c.loop-x-test.true), below_more _ _ c.loop-x.invariant.1 (not-false _ (sym c.bad_receiver.ensures ∙ c.if-bad_receiver.false)))

pub returns : goal.returns
returns c = searched_none (first_end (λ i l. c.loop-x.invariant.1 i (omega (arith, c.loop-x-test.false)))) (omega arith)
