-- What a cell that leaves does to its neighbours, on the slices.
use Rattle.std.specs.Prelude.{ℕ, zero, suc, ◌≤◌, ◌≡◌, Bool, cond, List, [], ◌∷◌, ◌++◌, eqb, length, get_or, take, Float}
use Rattle.std.specs.Float.{nan}
use Rattle.grid_spacing.specs.declared.Distances.{Distances}
use Rattle.drainage.specs.Ground.{Kind, Ground, floats, ground_by}
use Rattle.drainage.specs.Flood.{Flood, push, push_all}
use Rattle.flood_queue.specs.Scans.{Queued}
use Rattle.flood_start.specs.Slices.{FloodSlices, state_with}

-- the flood after cell c has reached the cells of a list, in their order
module _ {H : Type 0} (k : Kind H) (g : Ground) (hs : List H) (c : ℕ) where
  unfoldable pub pushed_by : List ℕ → Flood H → Flood H
  pushed_by [] s = s
  pushed_by (m ∷ l) s = pushed_by l (push k g hs c m s)

-- Cell c, which has left, has reached the cells of the list `cells`: the slices held `before` and hold `after`, the
-- state after that, on any ground and for any order so far; with `after`, len and queue are as `Queued` states.
pub record ReachedBy (hs : List Float) (limit c : ℕ) (cells : List ℕ) (before : FloodSlices) (len : ℕ) (after : FloodSlices) (queue : List ℕ)
    : Type 0 where
  pub left : get_or after.status c 0 ≡ 2
  pub level : get_or after.spill c nan ≡ get_or before.spill c nan
  pub state : (g : Ground) (order : List ℕ) → state_with after order ≡ pushed_by floats g hs c cells (state_with before order)
  pub queued : Queued hs limit after.status after.spill len queue

-- Cell c has reached cell m.
abbrev pub ReachedOne : List Float → ℕ → ℕ → ℕ → FloodSlices → ℕ → FloodSlices → List ℕ → Type 0
ReachedOne hs limit c m = ReachedBy hs limit c (m ∷ [])

-- Cell c has reached all its neighbours, whatever cells are base level and whatever the distances: the slices held
-- `before` and hold `after`, for any order so far; with `after`, len and queue are as `Queued` states.
pub record ReachedAll (w h : ℕ) (hs : List Float) (limit c : ℕ) (before : FloodSlices) (len : ℕ) (after : FloodSlices) (queue : List ℕ) : Type 0 where
  pub state :
      (ds : Distances) (base : ℕ → Bool) (order : List ℕ)
      → state_with after order ≡ push_all floats (ground_by w h ds base) hs c (state_with before order)
  pub queued : Queued hs limit after.status after.spill len queue

-- the cells among near 1, … near d that have not been pushed
unfoldable pub unpushed_to : (ℕ → ℕ) → List ℕ → ℕ → List ℕ
unpushed_to near status zero = []
unpushed_to near status (suc d) = unpushed_to near status d ++ cond (eqb (get_or status (near (suc d)) 1) 0) (near (suc d) ∷ []) []

-- The first `some` entries of `found`, which has eight, are the cells among near 1, … near d that have not been pushed.
pub record Found (near : ℕ → ℕ) (status : List ℕ) (d some : ℕ) (found : List ℕ) : Type 0 where
  pub few : some ≤ d
  pub long : length found ≡ 8
  pub cells : take some found ≡ unpushed_to near status d
