use mathlib.Core.Path.{subst, ◌∙◌}
use Rattle.flood.specs.Steps.{NextLeaver}
use Rattle.flood.proofs.RunLaws.{leaver_next, still_ready}
use Rattle.flood.proofs.next_leaver.Goals as goal

pub returns-in_default-Some : goal.returns-in_default-Some
returns-in_default-Some c =
    subst (λ t. NextLeaver c.args.h.now c.args.list.now t c.args.spill.now c.turn.result.0 c.in_default-Some.c c.turn.new.status c.turn.new.queue) c.loop-next.invariant.0
    (leaver_next _ _ _ _ _ _ c.loop-next.invariant.1 _ _ _ _ c.turn.ensures _ c.in_default-Some.is-1)

pub loop-next-preserved : goal.loop-next-preserved
loop-next-preserved c = (c.turn.ensures.same c.in_default-None.is-1 ∙ c.loop-next.invariant.0, still_ready _ _ _ _ _ _ c.loop-next.invariant.1 _ _ _ _ c.turn.ensures c.in_default-None.is-1)
