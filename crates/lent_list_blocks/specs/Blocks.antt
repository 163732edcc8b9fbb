-- A block of a list: which of its positions have cells of a segment, and the receivers of the cells there.
use Rattle.std.specs.Prelude.{◌≡◌, ℕ, zero, suc, ◌+◌, ◌<◌, ◌≤◌, Bool, true, false, cond, List, length, slice_index}
use Rattle.lent_list_marks.specs.Seen.{span, in_segment}

-- every entry before a position is one of n cells
pub record CellsBefore (n : ℕ) (list : List ℕ) (position : ℕ) : Type 0 where
  pub cell : (i : ℕ) → i < position → slice_index list i < n

-- every cell of a list is one of n
pub record CellsIn (n : ℕ) (cells : List ℕ) : Type 0 where
  pub cell : (i : ℕ) → i < length cells → slice_index cells i < n

-- the position of the i-th entry checked of a block that starts at `from`: the i-th of the whole block, or the i-th in
-- `places`
abbrev pub taken_at : Bool → List ℕ → ℕ → ℕ → ℕ
taken_at whole places from i = cond whole (from + i) (slice_index places i)

-- the entry at each of the first k positions is one of n cells
pub record CellsAt (n : ℕ) (list : List ℕ) (position : ℕ → ℕ) (k : ℕ) : Type 0 where
  pub place : (i : ℕ) → i < k → position i < length list
  pub cell : (i : ℕ) → i < k → slice_index list (position i) < n

-- the position after the first i of the given positions; `from` where i is 0
unfoldable pub following : ℕ → (ℕ → ℕ) → ℕ → ℕ
following from position zero = from
following from position (suc i) = suc (position i)

-- no cell at the positions from `from` to before `to` lies in the segment from lo
pub record NoneWithin (list : List ℕ) (lo from to : ℕ) : Type 0 where
  pub order : from ≤ to
  pub each : (q : ℕ) → from ≤ q → q < to → in_segment span lo (slice_index list q) ≡ false

-- the first k positions are, in order, those from `from` to before `to` whose cells lie in the segment from lo
pub record Picked (list : List ℕ) (lo from to : ℕ) (position : ℕ → ℕ) (k : ℕ) : Type 0 where
  pub few : from + k ≤ to
  pub below : (i : ℕ) → i < k → position i < to
  pub inside : (i : ℕ) → i < k → in_segment span lo (slice_index list (position i)) ≡ true
  pub between : (i : ℕ) → i < k → NoneWithin list lo (following from position i) (position i)
  pub rest : NoneWithin list lo (following from position k) to

-- the first k of the cells are, in order, the entries from position `from` to before `to` that lie in the segment from lo
pub record Taken (list : List ℕ) (lo from to : ℕ) (cells : List ℕ) (k : ℕ) : Type 0 where
  pub position : ℕ → ℕ
  pub picked : Picked list lo from to position k
  pub entries : (i : ℕ) → i < k → slice_index cells i ≡ slice_index list (position i)

-- the receiver of the i-th of the cells
abbrev pub receiver_at : List ℕ → List ℕ → ℕ → ℕ
receiver_at recv cells i = slice_index recv (slice_index cells i)

-- the receiver of the cell at the i-th of the given positions
abbrev pub receivers_at : List ℕ → List ℕ → (ℕ → ℕ) → ℕ → ℕ
receivers_at recv list position i = slice_index recv (slice_index list (position i))
