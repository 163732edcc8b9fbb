use Prim.Native.Nat.{◌*◌, ◌<◌}
use native.Mathlib.Omega.{arith}
use mathlib.Core.Path.{◌≡◌, refl, sym, ◌∙◌}
use lib.ListN.{length}
use Rattle.flood_start.proofs.StartLaws.{started_fresh, started_spill}
use Rattle.flood_reach.proofs.ReachLaws.{sizes_kept}
use Rattle.flood.proofs.RunLaws.{Running, Leaver, running_none, running_more, some_waits, leaver}
use Rattle.flood.proofs.flood.Goals as goal
use Rattle.flood.proofs.flood.Goals.{In-loop-i, After-next_leaver-c}

pub start-requires : goal.start-requires
start-requires c =
    let z = c.requires.sizes in
    record {
      h_bound = z.few;
      h_len = z.heights;
      status_len = z.statuses;
      spill_len = z.spills;
      recv_len = c.sort_cells-sorted.auto.other ∙ z.discoverers;
    }

pub begin-scan-requires : goal.begin-scan-requires
begin-scan-requires c =
    let z = c.requires.sizes in
    record {
      sorted_value = c.sort_cells-sorted.ensures;
      begins = record {
        few = omega (arith, z.few, z.heights);
        lists = c.sort_cells-sorted.auto.list ∙ c.requires.order_len ∙ sym z.heights;
        statuses = c.start.auto.status ∙ z.statuses ∙ sym z.heights;
        spills = started_spill _ _ _ _ _ _ _ c.start.ensures;
        fresh = started_fresh _ _ _ _ _ _ _ c.start.ensures;
        room = omega (arith, z.room, z.heights);
      };
    }

pub loop-i-init : goal.loop-i-init
loop-i-init c =
    let t = c.start.auto in (
      sizes_kept c.requires.sizes t.status t.spill (t.recv ∙ c.sort_cells-sorted.auto.other) c.begin-scan.auto.queue,
      λ land started _. running_none _ _ _ _ _ _ _ _ _ _ started c.begin-scan.ensures,
    )

-- i cells have left
running : (c : In-loop-i) → Running c.args.g.w c.args.g.h c.args.land c.args.h.now c.loop-i.i c.loop-i.scan c.loop-i.status c.loop-i.spill c.loop-i.recv c.loop-i.order c.loop-i.queue
running c = c.loop-i.invariant.1 _ c.start.ensures c.requires.h_value

below : (c : In-loop-i) → c.loop-i.i < c.args.g.w * c.args.g.h
below c = omega (arith, c.loop-i-test.true, c.requires.sizes.heights)

long : (c : In-loop-i) → length c.loop-i.order ≡ c.args.g.w * c.args.g.h
long c = c.loop-i.auto.order ∙ c.sort_cells-sorted.auto.list ∙ c.requires.order_len

pub next_leaver-c-requires : goal.next_leaver-c-requires
next_leaver-c-requires c =
    let z = c.loop-i.invariant.0 in
    let e = (goal.at.next_leaver-c-requires c).In-loop-i in
    record {
      scan_ready = record {
        few = omega (arith, z.few, z.heights);
        statuses = z.statuses ∙ sym z.heights;
        spills = z.spills ∙ sym z.heights;
        begun = (running e).begun;
      };
      waits = some_waits _ _ _ _ _ _ _ _ _ _ _ (running e) c.requires.accepted_grid c.requires.h_value c.type_inv.h (below e);
    }

-- the cell that has left
left : (c : After-next_leaver-c) → Leaver c.args.h.now c.next_leaver-c.result.0.limit c.next_leaver-c.result.1 c.loop-i.i c.next_leaver-c.new.status c.loop-i.spill c.loop-i.order
left c =
    leaver _ _ _ _ _ _ _ _ _ _ _ (c.loop-i.invariant.1 _ c.start.ensures c.requires.h_value) c.requires.accepted_grid c.requires.h_value c.type_inv.h (omega (arith, c.loop-i-test.true, c.requires.sizes.heights)) _ _ _ _
    c.next_leaver-c.ensures c.loop-i.invariant.0.statuses (c.loop-i.auto.order ∙ c.sort_cells-sorted.auto.list ∙ c.requires.order_len)

pub reach_all-len-requires : goal.reach_all-len-requires
reach_all-len-requires c =
    let z = c.loop-i.invariant.0 in
    let t = c.next_leaver-c.auto in
    let v = left (goal.at.reach_all-len-requires c).After-next_leaver-c in
    record {
      in_range = c.requires.accepted_grid.sides;
      sizes = sizes_kept z t.status refl refl t.queue;
      queued = c.next_leaver-c.ensures.queued;
      c_bound = omega (arith, v.inside, z.heights);
      c_value = v.left;
      level = v.level;
    }

pub loop-i-preserved : goal.loop-i-preserved
loop-i-preserved c =
    let z = c.loop-i.invariant.0 in
    let e = (goal.at.loop-i-preserved c).In-loop-i in
    let t = c.next_leaver-c.auto in
    let l = c.reach_all-len.auto in (
      sizes_kept z (l.status ∙ t.status) l.spill l.recv (l.queue ∙ t.queue),
      λ land started some. running_more _ _ land _ _ _ _ _ _ _ _ (c.loop-i.invariant.1 land started some) c.requires.accepted_grid some c.type_inv.h (below e) _ _ _ _ c.next_leaver-c.ensures z.statuses _ _ _ _ _ _ (long e) refl c.reach_all-len.ensures,
    )
