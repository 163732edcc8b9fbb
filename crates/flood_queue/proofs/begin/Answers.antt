use native.Mathlib.Omega.{arith}
use mathlib.Core.Path.{refl, sym, ap, ◌∙◌}
use lib.ListN.{length}
use Rattle.flood_sort.proofs.SortedLaws.{sorted}
use Rattle.flood_queue.proofs.BeginLaws.{begun_sorted, begun_gathered}
use Rattle.flood_queue.proofs.begin.Goals as goal

pub limit_at-requires : goal.limit_at-requires
limit_at-requires c = λ l. (sorted c.args.h.now c.args.list.now (sym c.requires.sorted_value ∙ c.if-sorted.true)).cells 0 l

pub returns-then-sorted : goal.returns-then-sorted
returns-then-sorted c = let a = c.args in begun_sorted a.h.now a.list.now a.status.now a.spill.now a.queue.now c.requires.begins (sym c.requires.sorted_value ∙ c.if-sorted.true) _ c.limit_at.ensures

pub gather_all-requires : goal.gather_all-requires
gather_all-requires c =
    let b = c.requires.begins in
    record {
      status_len = b.statuses ∙ sym (ap length b.spills);
      status_in_bounds = omega (arith, b.statuses, b.room);
      status_len_bound = omega (arith, b.statuses, b.few);
    }

pub returns : goal.returns
returns c = let a = c.args in begun_gathered a.h.now a.list.now a.status.now a.spill.now a.queue.now c.requires.begins c.type_inv.h _ _ _ refl c.gather_all.ensures
