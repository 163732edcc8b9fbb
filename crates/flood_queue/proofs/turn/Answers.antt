use Prim.Native.Nat.{ℕ, ◌≤◌, ◌<◌}
use native.Mathlib.Omega.{arith}
use lib.ListN.{length, get_or}
use Rattle.flood_heap.specs.Queue.{queue_place, within}
use Rattle.flood_queue.proofs.ScanLaws.{heap_behind, head_inside, turned_heap, turned_past, turned_leaves}
use Rattle.flood_queue.proofs.turn.Goals as goal
use Rattle.flood_queue.proofs.turn.Goals.{Else-heap_first}

pub returns-then-heap_first : goal.returns-then-heap_first
returns-then-heap_first c = turned_heap _ _ _ _ _ _ c.requires.scan_ready _ c.heap_first.ensures c.if-heap_first.true _ _ c.pop-c.ensures

-- the scan's cell, where the heap's first one does not come before it
low : (c : Else-heap_first) → (x : ℕ) → 0 < within x c.args.s.len c.args.queue.now → c.args.s.limit ≤ queue_place c.args.spill.now x
low c = heap_behind _ _ _ _ _ _ c.requires.scan_ready.begun.queued _ c.heap_first.ensures c.if-heap_first.false

head : (c : Else-heap_first) → c.args.s.head < length c.args.list.now
head c = head_inside _ _ _ _ _ _ c.requires.scan_ready c.type_inv.h c.type_inv.spill c.requires.waits (low c)

cell : (c : Else-heap_first) → get_or c.args.list.now c.args.s.head 0 < length c.args.h.now
cell c = c.requires.scan_ready.begun.listed.cells c.args.s.head (omega arith) (head c)

pub bounds-list-s : goal.bounds-list-s
bounds-list-s c = head (goal.at.bounds-list-s c).Else-heap_first

pub bounds-status-c-2 : goal.bounds-status-c-2
bounds-status-c-2 c = omega (arith, cell (goal.at.bounds-status-c-2 c).Else-heap_first, c.requires.scan_ready.statuses)

pub returns-then-status-c-ne-WAITING : goal.returns-then-status-c-ne-WAITING
returns-then-status-c-ne-WAITING c = turned_past _ _ _ _ _ _ c.requires.scan_ready c.type_inv.h (head (goal.at.returns-then-status-c-ne-WAITING c).Else-heap_first) _ c.limit_at-limit.ensures c.if-status-c-ne-WAITING.true

pub returns : goal.returns
returns c = let e = (goal.at.returns c).Else-heap_first in turned_leaves _ _ _ _ _ _ c.requires.scan_ready c.type_inv.h (head e) _ c.limit_at-limit.ensures c.if-status-c-ne-WAITING.false (low e)
