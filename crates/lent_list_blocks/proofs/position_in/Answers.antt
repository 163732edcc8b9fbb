use Rattle.std.proofs.Common.{sym, ◌∙◌, arith}
use Rattle.lent_list_blocks.proofs.ListedLaws.{nearing_none, nearing_found, nearing_less, nearing_past, nearing_end}
use Rattle.lent_list_blocks.proofs.position_in.Goals as goal
use Rattle.lent_list_blocks.proofs.position_in.Goals.{then-is_inside+else-left-eq0, else-is_inside}

pub loop-p-init : goal.loop-p-init
loop-p-init c = nearing_none c.requires.order

pub returns-then-left-eq0 : goal.returns-then-left-eq0
returns-then-left-eq0 c = nearing_found c.loop-p.invariant c.loop-p-test.true (sym c.is_inside.ensures ∙ c.if-is_inside.true) c.if-left-eq0.true

pub loop-p-preserved : goal.loop-p-preserved
loop-p-preserved c = elim c.if-is_inside.branch [
  | then-is_inside+else-left-eq0 w ↦ rw w.left-is (nearing_less c.loop-p.invariant c.loop-p-test.true (sym c.is_inside.ensures ∙ w.if-is_inside.true) (omega (arith, w.if-left-eq0.false)))
  | else-is_inside w ↦ rw w.left-is (nearing_past c.loop-p.invariant c.loop-p-test.true (sym c.is_inside.ensures ∙ w.if-is_inside.false))
]

pub returns : goal.returns
returns c = nearing_end c.loop-p.invariant c.loop-p-test.false
