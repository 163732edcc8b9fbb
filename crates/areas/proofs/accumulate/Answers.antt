use mathlib.Core.Path.{sym, ◌∙◌}
use Rattle.areas.proofs.SumLaws.{adding_none, adding_more}
use Rattle.areas.proofs.accumulate.Goals as goal

pub loop-c-init : goal.loop-c-init
loop-c-init c =
    rw c.into_iter-c-iterator.ensures.into_iter_gives
    (rw c.rev-c-items.ensures.source
    (rw c.iter.ensures.rest
    (adding_none {recv = c.args.recv.now} {list = c.args.order.now} (c.fill.auto.self ∙ sym c.requires.receivers) (rw c.requires.receivers (c.fill.ensures.after (λ y h. h))))))

pub loop-c-preserved : goal.loop-c-preserved
loop-c-preserved c = adding_more c.loop-c.invariant _ _ c.in-Some.ensures.steps c.add_down.ensures c.add_down.auto.area
