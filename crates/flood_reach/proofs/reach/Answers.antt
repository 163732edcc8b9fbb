use native.Mathlib.Omega.{arith}
use mathlib.Core.Path.{refl}
use lib.ListN.{length-set}
use Rattle.flood_reach.proofs.ReachLaws.{has_room, respilled, reached_none, reached_old, reached_listed, reached_heaped}
use Rattle.flood_reach.proofs.reach.Goals as goal
use Rattle.flood_reach.proofs.reach.Goals.{then-status-m-via-then-status-m, then-status-m-via-else-status-m+then-status-m-ne-UNPUSHED}

pub returns-then-status-m : goal.returns-then-status-m
returns-then-status-m c = let a = c.args in elim c.then-status-m.branch [
  | then-status-m-via-then-status-m w ↦ reached_none a.h.now a.limit a.c a.m a.status.now a.spill.now a.recv.now a.len a.queue.now c.requires.queued c.requires.c_value w.if-status-m.true
  | then-status-m-via-else-status-m+then-status-m-ne-UNPUSHED w ↦ reached_old a.h.now a.limit a.c a.m a.status.now a.spill.now a.recv.now a.len a.queue.now c.requires.queued c.requires.c_value w.if-status-m.false w.if-status-m-ne-UNPUSHED.true
]

pub returns-then-limit-own : goal.returns-then-limit-own
returns-then-limit-own c = let a = c.args in reached_listed a.h.now a.limit a.c a.m a.status.now a.spill.now a.recv.now a.len a.queue.now c.requires.queued c.requires.c_value c.if-status-m.false c.if-status-m-ne-UNPUSHED.false _ _ _ refl _ c.max.ensures refl refl (omega (arith, c.if-status-m.false, c.requires.sizes.statuses, c.requires.sizes.spills)) (omega (arith, c.if-status-m.false, c.requires.sizes.statuses, c.requires.sizes.heights)) c.requires.level (omega (arith, c.place-own.ensures, c.if-limit-own.true))

pub push-requires : goal.push-requires
push-requires c =
    let q = c.requires.queued in
    record { heap = respilled _ _ _ _ _ _ q _ c.if-status-m-ne-UNPUSHED.false _ _ refl; len_in_bounds = omega (arith, has_room _ _ _ _ _ _ q _ c.if-status-m-ne-UNPUSHED.false (omega arith)); c_in_bounds = rw length-set (omega arith) }

pub returns : goal.returns
returns c = let a = c.args in reached_heaped a.h.now a.limit a.c a.m a.status.now a.spill.now a.recv.now a.len a.queue.now c.requires.queued c.requires.c_value c.if-status-m.false c.if-status-m-ne-UNPUSHED.false _ _ _ refl _ c.max.ensures refl refl _ (omega (arith, c.place-own.ensures, c.if-limit-own.false)) c.push.ensures
