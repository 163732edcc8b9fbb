-- What the inner functions of an incision require, and what they leave in their slices.
use Rattle.std.specs.Prelude.{ℕ, ◌*◌, ◌<◌, ◌≡◌, Bool, true, List, length, get_or, Float}
use Rattle.floats.specs.Stand.{whole}
use Rattle.grid.specs.Sides.{InRange}
use Rattle.grid_spacing.specs.declared.Distances.{Distances}
use Rattle.drainage.specs.Ground.{ground_by}
use Rattle.drainage.specs.Ways.{WorkList, areas_along}
use Rattle.areas.specs.Sums.{Along}
use Rattle.incision_cell.specs.declared.Incision.{Incision}
use Rattle.incision_paths.specs.Settled.{settled_heights}
use Rattle.lent_receivers.specs.Receivers.{good_receiver}
use Rattle.fluvial_erosion.specs.Incision.{incise_along, incised_by}
use Rattle.fluvial_erosion.specs.declared.FluvialParams.{FluvialParams}

-- recv are receivers on a w × h grid, each its own cell or a neighbour, and list is a work list of them
pub record Drains (w h : ℕ) (recv list : List ℕ) : Type 0 where
  pub sides : InRange w h
  pub along : Along (w * h) recv list
  pub near : (c : ℕ) → c < w * h → good_receiver w h c (get_or recv c 0) ≡ true
  pub work : WorkList (w * h) recv list

-- heights, result and areas of n cells each
pub record Lengths (n hmap out area : ℕ) : Type 0 where
  pub heights : hmap ≡ n
  pub result : out ≡ n
  pub areas : area ≡ n

-- the settings of an incision on a w × h grid with the distances between its cells
abbrev pub on_grid : ℕ → ℕ → FluvialParams → Distances → Incision
on_grid w h p ds = record { width = w; cells = whole (w * h); k = p.k; uplift = p.uplift; water = p.water_level; distances = ds }

-- The heights that cells settle at by their ways down are those that the incision along the work list leaves, for any
-- areas and whatever cells are base level.
abbrev pub WaysDone : Type 0
WaysDone =
    (w h : ℕ) (recv list : List ℕ) → Drains w h recv list → (p : FluvialParams) (ds : Distances) (areas hs : List Float) → length hs ≡ w * h
    → (base : ℕ → Bool) → settled_heights (on_grid w h p ds) hs areas recv ≡ incise_along (ground_by w h ds base) p areas recv list hs

-- the two slices that an incision writes: `out` for the heights, `area` for the areas
pub record IncisionSlices : Type 0 where
  pub out : List Float
  pub area : List Float

-- what an incision by `areas` leaves in `after`: the heights hs incised along the list, whatever cells are base level,
-- and the areas as they were
pub record Incised (w h : ℕ) (hs : List Float) (p : FluvialParams) (ds : Distances) (areas : List Float) (recv list : List ℕ) (after : IncisionSlices) : Type 0 where
  pub heights : (base : ℕ → Bool) → after.out ≡ incise_along (ground_by w h ds base) p areas recv list hs
  pub still : after.area ≡ areas

-- what `incise_into` leaves in `after`: the heights hs incised along the list, whatever cells are base level, and the
-- areas along it
pub record Carved (w h : ℕ) (hs : List Float) (p : FluvialParams) (ds : Distances) (recv list : List ℕ) (after : IncisionSlices) : Type 0 where
  pub heights : (base : ℕ → Bool) → after.out ≡ incised_by (ground_by w h ds base) p recv list hs
  pub areas : after.area ≡ areas_along (w * h) recv list
