-- Document 01, 'Incision': along the list, from the heights as they then stand. A cell with height ≤ water level is
-- skipped. Else c = k × root(max(area, 1e-4 × n) / n) / d, and the new height is (height + uplift + c × H) / (1 + c).
-- For a cell that is its own receiver H is the water level and d is 1; otherwise H is max(receiver's new height, water
-- level) and d the distance.
use Rattle.std.specs.Prelude.{ℕ, List, [], ◌∷◌, get_or, set, Float}
use Rattle.std.specs.Float.{nan}
use Rattle.floats.specs.Stand.{whole}
pub use Rattle.incision_cell.specs.Cut.{incision_coef, solved}
use Rattle.incision_cell.specs.Cut.{drained_to, cut_of}
use Rattle.drainage.specs.Ground.{Ground}
use Rattle.drainage.specs.Receivers.{distance_to}
use Rattle.drainage.specs.Ways.{areas_along}
use Rattle.fluvial_erosion.specs.declared.FluvialParams.{FluvialParams}

-- the height of a cell after its incision, from its own height, its area, the distance to its receiver and the height H
-- to drain to
abbrev pub incised_height : FluvialParams → ℕ → Float → Float → Float → Float → Float
incised_height p n area d height down = cut_of height p.uplift p.water_level (incision_coef area (whole n) p.k d) down

module _ (g : Ground) (p : FluvialParams) (areas : List Float) (recv : List ℕ) where
  -- H: the water level for a cell that is its own receiver, else max(receiver's height, water level)
  abbrev pub drains_to : List Float → ℕ → Float
  drains_to hs c = drained_to c (get_or recv c 0) (get_or hs (get_or recv c 0) nan) p.water_level

  abbrev pub incised_at : List Float → ℕ → Float
  incised_at hs c = incised_height p g.cells (get_or areas c nan) (distance_to g c (get_or recv c 0)) (get_or hs c nan) (drains_to hs c)

  -- forward along the list, each cell from the heights as they then stand
  unfoldable pub incise_along : List ℕ → List Float → List Float
  incise_along [] hs = hs
  incise_along (c ∷ rest) hs = incise_along rest (set hs c (incised_at hs c))

-- areas backward along the list, then incision forward along it
unfoldable pub incised_by : Ground → FluvialParams → List ℕ → List ℕ → List Float → List Float
unfolding areas_along incise_along
incised_by g p recv list hs = incise_along g p (areas_along g.cells recv list) recv list hs
