use Rattle.std.proofs.Common.{not, sym, ap, ◌∙◌, true≢false, le-ltb, lt-ltb, eq-eqb, ne_eqb}
use borrow.Author.Tests.{not-true, not-false}
use Rattle.lent_receivers.specs.Receivers.{row_passes}
use Rattle.lent_receivers.proofs.RowLaws.{passes_west, passes_east, passes_inner}
use Rattle.lent_receivers.proofs.Receivers.row_passes.Goals as goal
use Rattle.lent_receivers.proofs.Receivers.row_passes.Goals.{then-w-lt3-via-then-w-lt3, then-w-lt3-via-else-w-lt3+then-y-eq0, then-w-lt3-via-else-w-lt3+else-y-eq0+then-y-self, then-not-bad_receiver, else-not-bad_receiver}

pub returns-then-w-lt3 : goal.returns-then-w-lt3
unfolding row_passes
returns-then-w-lt3 c = elim c.then-w-lt3.branch [
  | then-w-lt3-via-then-w-lt3 w ↦ rw (lt-ltb _ _ w.if-w-lt3.true)
  | then-w-lt3-via-else-w-lt3+then-y-eq0 w ↦ rw (le-ltb _ _ w.if-w-lt3.false, eq-eqb _ _ w.if-y-eq0.true)
  | then-w-lt3-via-else-w-lt3+else-y-eq0+then-y-self w ↦ rw (le-ltb _ _ w.if-w-lt3.false, ne_eqb _ _ w.if-y-eq0.false, eq-eqb _ _ w.if-y-self.true)
]

pub returns-then-not-bad_receiver-2 : goal.returns-then-not-bad_receiver-2
returns-then-not-bad_receiver-2 c = elim c.if-not-bad_receiver.branch [
  | then-not-bad_receiver w ↦ passes_inner _ _ _ _ c.if-w-lt3.false c.if-y-eq0.false c.if-y-self.false c.bad_receiver.ensures w.if-not-bad_receiver.true w.bad_receiver-then-not-bad_receiver.ensures (not-true _ (sym w.value-is ∙ c.if-not-bad_receiver-2.true)) c.inner_pass.ensures
  | else-not-bad_receiver w ↦ absurd (true≢false (sym c.if-not-bad_receiver-2.true ∙ w.value-is ∙ ap not w.if-not-bad_receiver.false))
]

pub returns-else-not-bad_receiver-2 : goal.returns-else-not-bad_receiver-2
returns-else-not-bad_receiver-2 c = elim c.if-not-bad_receiver.branch [
  | then-not-bad_receiver w ↦ c.if-not-bad_receiver-2.false ∙ passes_east _ _ _ _ c.if-w-lt3.false c.if-y-eq0.false c.if-y-self.false c.bad_receiver.ensures w.if-not-bad_receiver.true w.bad_receiver-then-not-bad_receiver.ensures (not-false _ (sym w.value-is ∙ c.if-not-bad_receiver-2.false))
  | else-not-bad_receiver w ↦ c.if-not-bad_receiver-2.false ∙ passes_west _ _ _ _ c.if-w-lt3.false c.if-y-eq0.false c.if-y-self.false c.bad_receiver.ensures w.if-not-bad_receiver.false
]
