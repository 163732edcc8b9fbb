use mathlib.Core.Path.{ap, ◌∙◌}
use lib.Ieee.Scale.{finite}
use Rattle.loops.specs.Loops.{tabulate}
use Rattle.loops.proofs.LoopLaws.{at_end}
use Rattle.grid.specs.Heights.{all_finite}
use Rattle.grid.proofs.HeightsLaws.{all_none, all_more}
use Rattle.stream_rows.specs.Rows.{height_at, row_heights}
use Rattle.stream_rows.proofs.Rows.row_finite.Goals as goal

pub loop-x-init : goal.loop-x-init
loop-x-init c = let r = c.args.self.now in all_none (λ k. height_at r.bytes.now r.at r.size.w k c.args.y)

pub loop-x-preserved : goal.loop-x-preserved
loop-x-preserved c = let r = c.args.self.now in
    all_more (λ k. height_at r.bytes.now r.at r.size.w k c.args.y) _ c.loop-x.invariant (c.is_finite-good.ensures ∙ ap finite c.height_at.ensures)

pub returns : goal.returns
unfolding row_heights
returns c = let r = c.args.self.now in
    at_end (λ n. all_finite (tabulate n (λ k. height_at r.bytes.now r.at r.size.w k c.args.y))) c.loop-x.invariant c.loop-x.auto.x-end c.loop-x-test.false
