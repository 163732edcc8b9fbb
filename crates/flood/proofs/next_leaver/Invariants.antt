use mathlib.Core.Path.{◌≡◌}
use Prim.Native.Nat.{◌-◌}
use lib.ListN.{length}
use Rattle.flood_queue.specs.Scans.{ScanReady}
use Rattle.flood.proofs.next_leaver.Given as goal

abbrev pub invariant-loop-next : goal.invariant-loop-next
invariant-loop-next l = (l.status ≡ l.initial.status) × ScanReady l.h l.list l.status l.spill l.scan l.queue

abbrev pub decreases-loop-next : goal.decreases-loop-next
decreases-loop-next l = length l.list - l.scan.head
