use Rattle.flood_start.proofs.StartLaws.{marks, mark_at, mark_is}
use Rattle.flood_start.proofs.RowLaws.{rows_none, rows_more, rows_done}
use native.Mathlib.Omega.{arith}
use mathlib.Core.Path.{refl, ◌∙◌}
use Rattle.flood_start.proofs.mark_base.Goals as goal

pub loop-y-init : goal.loop-y-init
loop-y-init c = (omega arith, refl, rows_none _ (marks _ _ c.args.h.now c.args.land) _)

pub loop-y-preserved : goal.loop-y-preserved
loop-y-preserved c = let a = c.args in (
  omega arith,
  c.mark_row.auto.status ∙ c.loop-y.invariant.1,
  rows_more _ _ (marks _ _ a.h.now a.land) (mark_at a.g.w a.g.h a.h.now a.land) a.status.now c.requires.status_len (λ x y l _. mark_is a.g.w a.g.h a.h.now a.land x y l) _ c.loop-y-test.true _ _ c.loop-y.invariant.2 c.mark_row.ensures,
)

pub returns : goal.returns
returns c = let a = c.args in
    rows_done _ _ (marks _ _ a.h.now a.land) a.status.now _ c.requires.status_len _ c.loop-y.invariant.0 c.loop-y-test.false c.loop-y.invariant.2
