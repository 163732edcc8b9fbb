-- The walk along a list for a segment of cells: what the marks say of the entries passed.
use Rattle.std.specs.Prelude.{ℕ, ◌+◌, ◌-◌, ◌^◌, ◌≤◌, ◌<◌, ◌≡◌, Bool, true, false, not, ◌||◌, List, length, get_or, slice_index, take, ltb}
use Rattle.loops.specs.Loops.{turns}
use Rattle.loops.specs.Counts.{times}
use Rattle.lent_list_marks.specs.Seen.{segment, span, is_marked, marking, in_segment, missing_in}
use Rattle.lent_list.specs.Entries.{good_entry}

-- the entry at a position is good as far as the cells lo to hi - 1 show: it is one of n cells; if it is one of lo to hi
-- - 1, it did not stand earlier; and if its receiver, another cell, is one of them too, that did
pub record GoodWithin (n : ℕ) (recv list : List ℕ) (lo hi position : ℕ) : Type 0 where
  pub cell : get_or list position 0 < n
  pub fresh : lo ≤ get_or list position 0 → get_or list position 0 < hi → times (get_or list position 0) (take position list) ≡ 0
  pub after : (get_or recv (get_or list position 0) 0 ≡ get_or list position 0 → ⊥) → lo ≤ get_or list position 0 → get_or list position 0 < hi
      → lo ≤ get_or recv (get_or list position 0) 0 → get_or recv (get_or list position 0) 0 < hi → 0 < times (get_or recv (get_or list position 0) 0) (take position list)

-- f is the first position below the limit that the cells lo to hi - 1 show to be bad, or the limit
pub record Scanned (n : ℕ) (recv list : List ℕ) (lo hi limit f : ℕ) : Type 0 where
  pub bound : f ≤ limit
  pub earlier : (i : ℕ) → i < f → GoodWithin n recv list lo hi i
  pub fails : f < limit → good_entry n recv list f ≡ false

-- m has the marks of the `long` cells from lo on, after the entries before position p: m i tells whether cell lo + i
-- stands among them
abbrev pub Stood : ℕ → List ℕ → ℕ → ℕ → (ℕ → Bool) → Type 0
Stood long list lo p m = (i : ℕ) → i < long → m i ≡ ltb 0 (times (lo + i) (take p list))

-- the walk for the `long` cells from lo on has come to position p, with the marks m
pub record Walk (long n : ℕ) (recv list : List ℕ) (lo limit p : ℕ) (m : ℕ → Bool) : Type 0 where
  pub place : p ≤ limit
  pub marks : Stood long list lo p m
  pub earlier : (i : ℕ) → i < p → GoodWithin n recv list lo (lo + long) i

-- the walk has ended at a bad entry f, or has come to position `to`
pub record WalkEnded (n : ℕ) (recv list : List ℕ) (lo to : ℕ) (seen : List ℕ) (f : ℕ) : Type 0 where
  pub found : Scanned n recv list lo (lo + span) to f
  pub marks : f ≡ to → Stood span list lo to (is_marked seen)

-- every one of the cells lies in the segment from lo
pub record CellsWithin (lo : ℕ) (cells : List ℕ) : Type 0 where
  pub each : (i : ℕ) → i < length cells → in_segment span lo (slice_index cells i) ≡ true

-- the marks after the first i of the cells, which lie in the segment from lo
abbrev pub marked_by : ℕ → List ℕ → List ℕ → ℕ → List ℕ
marked_by lo cells seen i = turns i (λ j s. marking s (slice_index cells j - lo)) seen

-- the i-th of the cells is good by the marks: it has not stood yet, and its receiver has, if it lies in the segment
abbrev pub good_by_marks : ℕ → List ℕ → List ℕ → List ℕ → ℕ → Bool
good_by_marks lo recv cells seen i =
    let c = slice_index cells i in
    not (is_marked (marked_by lo cells seen i) (c - lo) || missing_in (marking (marked_by lo cells seen i) (c - lo)) lo (slice_index recv c))

-- recv and list have n entries each, and every receiver is one of the n cells
pub record ListLengths (n : ℕ) (recv list : List ℕ) : Type 0 where
  pub receivers : length recv ≡ n
  pub entries : length list ≡ n
  pub inside : (c : ℕ) → c < n → get_or recv c 0 < n

-- every receiver of n cells lies in the segment from lo
pub record ReceiversIn (lo n : ℕ) (recv : List ℕ) : Type 0 where
  pub each : (c : ℕ) → c < n → in_segment span lo (get_or recv c 0) ≡ true

-- there are at most 2 ^ 24 cells, and no receiver is further from its cell than segments overlap
pub record WithinOverlap (n : ℕ) (recv : List ℕ) : Type 0 where
  pub few : n ≤ 2 ^ 24
  pub up : (c : ℕ) → c < n → segment + get_or recv c 0 ≤ c + span
  pub down : (c : ℕ) → c < n → segment + c ≤ get_or recv c 0 + span
