-- The queue of the flood: a scan of the cells in the order of their own heights, and a heap of the waiting cells that
-- it has passed.
use Rattle.std.specs.Prelude.{ℕ, ◌+◌, ◌^◌, ◌≤◌, ◌<◌, ◌≡◌, Bool, ◌&&◌, cond, Option, Some, None, List, length, get_or, set, ltb, leb, Float}
use Rattle.std.specs.Float.{nan}
use Rattle.floats.specs.Stand.{max_of}
use Rattle.loops.specs.Counts.{one_if, count_below}
use Rattle.flood_heap.specs.Queue.{queue_place, within, Heap}
use Rattle.flood_queue.specs.declared.Scan.{Scan}

-- above the place of every cell
abbrev pub endless : ℕ
endless = 0xffff_ffff_ffff_ffff

-- The limit of a scan that stands before entry `head` of a list of cells: the place of that entry's cell by its own
-- height; behind the last entry it is above all places.
abbrev pub limit_of : List Float → List ℕ → ℕ → ℕ
limit_of hs list head = cond (ltb head (length list)) (queue_place hs (get_or list head 0)) endless

-- The queue holds, each once, the waiting cells whose own heights lie below the limit of the scan. Every cell at the
-- limit or above it, and every cell not pushed yet, has its own height as its spill height. All cells that have left
-- lie below the limit.
pub record Queued (hs : List Float) (limit : ℕ) (status : List ℕ) (spill : List Float) (len : ℕ) (queue : List ℕ) : Type 0 where
  pub heap : Heap (queue_place spill) (length spill) len queue
  pub below : (c : ℕ) → queue_place hs c < limit → within c len queue ≡ one_if (get_or status c 0) 1
  pub above : (c : ℕ) → limit ≤ queue_place hs c → within c len queue ≡ 0
  pub own : (c : ℕ) → limit ≤ queue_place hs c → get_or spill c nan ≡ get_or hs c nan
  pub unraised : (c : ℕ) → get_or status c 0 ≡ 0 → get_or spill c nan ≡ get_or hs c nan
  pub gone : (c : ℕ) → get_or status c 0 ≡ 2 → queue_place hs c < limit

-- whether cell c lies at the limit or above it
abbrev pub at_limit : List Float → ℕ → ℕ → Bool
at_limit hs limit c = ltb c (length hs) && leb limit (queue_place hs c)

-- cell c stands in the list at entry head or behind it
pub record StandsIn (list : List ℕ) (head c : ℕ) : Type 0 where
  pub at : ℕ
  pub from : head ≤ at
  pub inside : at < length list
  pub is : get_or list at 0 ≡ c

-- From entry head on the list holds the cells that lie at the limit or above it, in their order.
pub record Remaining (hs : List Float) (head limit : ℕ) (list : List ℕ) : Type 0 where
  pub long : length list ≡ length hs
  pub few : head ≤ length list
  pub limit_is : limit ≡ limit_of hs list head
  pub cells : (k : ℕ) → head ≤ k → k < length list → get_or list k 0 < length hs
  pub rising : (j k : ℕ) → head ≤ j → j < k → k < length list → queue_place hs (get_or list j 0) < queue_place hs (get_or list k 0)
  pub all : (c : ℕ) → c < length hs → limit ≤ queue_place hs c → StandsIn list head c
  pub many : head + count_below (length hs) (at_limit hs limit) ≡ length hs

-- No cell at the limit or above it is raised by a cell of spill height x.
pub record Level (hs : List Float) (limit : ℕ) (x : Float) : Type 0 where
  pub keeps : (m : ℕ) → m < length hs → limit ≤ queue_place hs m → max_of (get_or hs m nan) x ≡ get_or hs m nan

-- The queue holds those of the first i cells that wait.
pub record Gathered (status : List ℕ) (spill : List Float) (i len : ℕ) (queue : List ℕ) : Type 0 where
  pub heap : Heap (queue_place spill) (length spill) len queue
  pub below : (c : ℕ) → c < i → within c len queue ≡ one_if (get_or status c 0) 1
  pub above : (c : ℕ) → i ≤ c → within c len queue ≡ 0
  pub few : len ≤ i

-- Before the scan begins no cell has left, and spill heights are heights.
pub record Begins (hs : List Float) (list status : List ℕ) (spill : List Float) (queue : List ℕ) : Type 0 where
  pub few : length hs ≤ 2 ^ 24
  pub lists : length list ≡ length hs
  pub statuses : length status ≡ length hs
  pub spills : spill ≡ hs
  pub fresh : (c : ℕ) → get_or status c 0 ≡ 2 → ⊥
  pub room : length hs ≤ length queue

-- The list and the queue are as the scan s has them: from its `head` on the list holds the cells at its limit or above
-- it, and the heap holds the waiting cells below the limit.
pub record ScanBegun (hs : List Float) (list status : List ℕ) (spill : List Float) (s : Scan) (queue : List ℕ) : Type 0 where
  pub listed : Remaining hs s.head s.limit list
  pub queued : Queued hs s.limit status spill s.len queue

pub record ScanReady (hs : List Float) (list status : List ℕ) (spill : List Float) (s : Scan) (queue : List ℕ) : Type 0 where
  pub few : length hs ≤ 2 ^ 24
  pub statuses : length status ≡ length hs
  pub spills : length spill ≡ length hs
  pub begun : ScanBegun hs list status spill s queue

-- some cell waits
pub record Waits (status : List ℕ) : Type 0 where
  pub cell : ℕ
  pub waits : get_or status cell 0 ≡ 1

-- Cell c, which waited with the least place of all waiting cells, has left, and its place lies below the limit.
pub record Leaves (hs : List Float) (limit c : ℕ) (status : List ℕ) (spill : List Float) (status' : List ℕ) : Type 0 where
  pub inside : c < length hs
  pub waited : get_or status c 0 ≡ 1
  pub least : (b : ℕ) → get_or status b 0 ≡ 1 → queue_place spill c ≤ queue_place spill b
  pub marked : status' ≡ set status c 2
  pub low : queue_place spill c < limit

-- A turn of the scan: the least waiting cell leaves, or the cell at entry head, which does not wait, is passed.
pub record Turned (hs : List Float) (list : List ℕ) (head : ℕ) (status : List ℕ) (spill : List Float) (r : Scan) (left : Option ℕ) (status' queue' : List ℕ) : Type 0 where
  pub listed : Remaining hs r.head r.limit list
  pub queued : Queued hs r.limit status' spill r.len queue'
  pub onward : head ≤ r.head
  pub leaves : (c : ℕ) → left ≡ Some c → Leaves hs r.limit c status spill status'
  pub passes : left ≡ None → head < r.head
  pub same : left ≡ None → status' ≡ status
