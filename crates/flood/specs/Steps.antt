-- What the turns of the scan do until a cell leaves.
use Rattle.std.specs.Prelude.{ℕ, List, Float}
use Rattle.flood_queue.specs.declared.Scan.{Scan}
use Rattle.flood_queue.specs.Scans.{Remaining, Queued, Leaves}

-- Cell c, which waited with the least place of all waiting cells, has left, and the list and the queue are as the scan r
-- has them.
pub record NextLeaver (hs : List Float) (list status : List ℕ) (spill : List Float) (r : Scan) (c : ℕ) (status' queue' : List ℕ) : Type 0 where
  pub listed : Remaining hs r.head r.limit list
  pub queued : Queued hs r.limit status' spill r.len queue'
  pub leaves : Leaves hs r.limit c status spill status'
