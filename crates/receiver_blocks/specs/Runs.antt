-- Receivers in the place of discoverers, in segments of cells with consecutive numbers.
use Rattle.std.specs.Prelude.{ℕ, ◌+◌, ◌-◌, ◌^◌, ◌≤◌, ◌<◌, ◌≡◌, Bool, cond, ◌⊎◌, List, ◌++◌, length, get_or, drop, eqb, Float}
use Rattle.std.specs.Float.{nan}
use Rattle.loops.specs.Loops.{turns, tabulate}
use Rattle.grid.specs.Directions.{neighbour_at, Adjacent}
use Rattle.grid_spacing.specs.declared.Distances.{Distances}
use Rattle.drainage.specs.Ground.{floats, ground_by}
use Rattle.drainage.specs.Receivers.{receiver_of}
use Rattle.receiver_steps.specs.Distance.{apart}
use Rattle.receiver.specs.declared.Best.{Best}
use Rattle.receiver.specs.Passes.{slope_down, compared_as}

-- the offset of cell m for cell c: m minus the north-west neighbour of c, which is c - (w + 1)
abbrev pub offset_from : ℕ → ℕ → ℕ → ℕ
offset_from w c m = m + (w + 1) - c

-- the discoverer f of cell c, by its offset, and the slope down to it
abbrev pub discoverer_as : Distances → ℕ → List Float → ℕ → ℕ → Best
discoverer_as ds w spill c f = record { cell = offset_from w c f; slope = slope_down spill c f (apart ds w c f) }

-- the receiver so far after the neighbours of inner cell c, in scan order and by their offsets, were compared with it
unfoldable pub steepest_from : List Float → ℕ → ℕ → List Float → ℕ → Best → Best
unfolding turns
steepest_from by-direction w h spill c = turns 8 (λ i. compared_as by-direction spill c (i + 1) (neighbour_at w h c (i + 1)) (offset_from w c (neighbour_at w h c (i + 1))))

-- the offset of the steepest neighbour of cell c + i; `cells` and `slopes` hold the offsets and slopes of the receivers
-- so far
abbrev pub steepest_at : List Float → ℕ → ℕ → List Float → ℕ → List ℕ → List Float → ℕ → ℕ
steepest_at by-direction w h spill c cells slopes i = (steepest_from by-direction w h spill (c + i) (record { cell = get_or cells i 0; slope = get_or slopes i nan })).cell

-- the discoverer of each cell from `from` to below `to` is the cell itself or a neighbour
pub record NearDiscoverers (w h from to : ℕ) (recv : List ℕ) : Type 0 where
  pub near : (c : ℕ) → from ≤ c → c < to → (get_or recv c 0 ≡ c) ⊎ Adjacent w h c (get_or recv c 0)

-- the receivers so far of a block of cells: `cells` holds their offsets, `slopes` the slopes down to them
pub record BlockReceivers : Type 0 where
  pub cells : List ℕ
  pub slopes : List Float

-- `after` begins with the offsets of the discoverers of the n cells from cell c on and the slopes down to them; the
-- rest is as in `before`
pub record Begun (ds : Distances) (w : ℕ) (spill : List Float) (recv : List ℕ) (c n : ℕ) (before after : BlockReceivers) : Type 0 where
  pub offsets : after.cells ≡ tabulate n (λ i. (discoverer_as ds w spill (c + i) (get_or recv (c + i) 0)).cell) ++ drop n before.cells
  pub downs : after.slopes ≡ tabulate n (λ i. (discoverer_as ds w spill (c + i) (get_or recv (c + i) 0)).slope) ++ drop n before.slopes

-- for each of the n cells from cell c on, cell number + offset is at least w + 1, so that the offset leads to no number
-- below 0, and at most 2 ^ 25
pub record Leads (w c n : ℕ) (cells : List ℕ) : Type 0 where
  pub enough : (i : ℕ) → i < n → w + 1 ≤ c + i + get_or cells i 0
  pub below : (i : ℕ) → i < n → c + i + get_or cells i 0 ≤ 2 ^ 25

-- each of the n cells from cell c on whose discoverer is another cell has the cell at its offset in recv'; all other
-- entries are as in recv
pub record Stored (w c n : ℕ) (cells recv recv' : List ℕ) : Type 0 where
  pub done :
      (i : ℕ) → i < n
      → get_or recv' (c + i) 0 ≡ cond (eqb (get_or recv (c + i) 0) (c + i)) (get_or recv (c + i) 0) (c + i + get_or cells i 0 - (w + 1))
  pub earlier : (k : ℕ) → k < c → get_or recv' k 0 ≡ get_or recv k 0
  pub later : (k : ℕ) → c + n ≤ k → get_or recv' k 0 ≡ get_or recv k 0
  pub long : length recv' ≡ length recv

-- recv' holds the receivers of the cells from `from` to below `to` in the place of their discoverers; the other entries
-- are as in recv
pub record RunReceived (ds : Distances) (w h : ℕ) (spill : List Float) (from to : ℕ) (recv recv' : List ℕ) : Type 0 where
  pub done :
      (base : ℕ → Bool) (c : ℕ) → from ≤ c → c < to
      → get_or recv' c 0 ≡ receiver_of floats (ground_by w h ds base) spill c (get_or recv c 0)
  pub earlier : (c : ℕ) → c < from → get_or recv' c 0 ≡ get_or recv c 0
  pub later : (c : ℕ) → to ≤ c → get_or recv' c 0 ≡ get_or recv c 0
  pub long : length recv' ≡ length recv
