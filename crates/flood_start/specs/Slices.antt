-- How slices hold the state of the flood of document 01 as crates/drainage defines it: statuses, spill heights,
-- discoverers and the order, each in a list of its own.
use Rattle.std.specs.Prelude.{ℕ, ◌^◌, ◌≤◌, ◌≡◌, cond, List, [], length, get_or, set, Float}
use Rattle.std.specs.Float.{nan}
use Rattle.loops.specs.Loops.{turns}
use Rattle.grid.specs.Sides.{cell_of}
use Rattle.grid.specs.Base.{base_at}
use Rattle.drainage.specs.Ground.{floats, grid_ground}
use Rattle.drainage.specs.Flood.{Flood, flood_start}
use Rattle.drainage.specs.declared.Land.{Land}

abbrev pub state_of : List ℕ → List Float → List ℕ → List ℕ → Flood Float
state_of status spill recv order = record { status = status; spill = spill; discoverer = recv; order = order }

-- What the slices status, spill and recv hold: the state of a flood without its order.
pub record FloodSlices : Type 0 where
  pub status : List ℕ
  pub spill : List Float
  pub recv : List ℕ

-- the state of these slices and an order
abbrev pub state_with : FloodSlices → List ℕ → Flood Float
state_with slices order = state_of slices.status slices.spill slices.recv order

-- the slices of a state, without its order
abbrev pub slices_of : Flood Float → FloodSlices
slices_of s = record { status = s.status; spill = s.spill; recv = s.discoverer }

-- hs, status, spill and recv have n entries, at most 2 ^ 24, and the queue has at least n.
pub record Sizes (n : ℕ) (hs : List Float) (status : List ℕ) (spill : List Float) (recv queue : List ℕ) : Type 0 where
  pub few : n ≤ 2 ^ 24
  pub heights : length hs ≡ n
  pub statuses : length status ≡ n
  pub spills : length spill ≡ n
  pub discoverers : length recv ≡ n
  pub room : n ≤ length queue

-- the status that a cell starts with: base cells wait
abbrev pub mark_of : ℕ → ℕ → Land → ℕ → ℕ → Float → ℕ
mark_of w h land x y height = cond (base_at w h land.sides land.water_level x y height) 1 0

-- the list with the first x cells of row y stored, each computed by `make` from the list so far
abbrev pub row_by : {A : Type 0} → ℕ → (ℕ → ℕ → List A → A) → ℕ → ℕ → List A → List A
row_by w make y x = turns x (λ x l. set l (cell_of w x y) (make x y l))

-- the list of statuses with those that row y starts with stored
abbrev pub row_marked : ℕ → ℕ → List Float → Land → ℕ → List ℕ → List ℕ
row_marked w h hs land y = row_by w (λ x y l. mark_of w h land x y (get_or hs (cell_of w x y) nan)) y w

-- The slices hold the first state of the flood.
pub record Started (w h : ℕ) (land : Land) (hs : List Float) (status : List ℕ) (spill : List Float) (recv : List ℕ) : Type 0 where
  pub state : state_of status spill recv [] ≡ flood_start floats (grid_ground w h land hs) hs
