-- What a routing is given: the cells with their neighbours, which of them are base level and the distance of each
-- direction (`Ground`), and how heights of a kind compare (`Kind`). Other base cells, other distances and other kinds
-- of heights are other values of these two records.
use Rattle.std.specs.Prelude.{ℕ, zero, suc, ◌*◌, Bool, false, not, ◌||◌, List, Float}
use Rattle.std.specs.Float.{nan, binary32}
use Rattle.std.specs.Float.Ieee.{lt, sub, div}
use Rattle.floats.specs.Stand.{max_of}
use Rattle.floats.specs.Key.{key_of}
use Rattle.grid.specs.Directions.{neighbour_at}
use Rattle.grid.specs.Base.{base_on, all_open}
use Rattle.grid_spacing.specs.Distances.{distance_in, square_distances}
use Rattle.grid_spacing.specs.declared.Distances.{Distances}
use Rattle.drainage.specs.declared.Land.{Land}

-- whether a test holds of some cell below m
unfoldable pub some_below : ℕ → (ℕ → Bool) → Bool
some_below zero p = false
some_below (suc m) p = p m || some_below m p

pub record Ground : Type 0 where
  -- the number of cells; cells are 0 … cells - 1
  pub cells : ℕ
  -- the neighbour of a cell in each of the directions 1 to 8; `cells` where there is none
  pub near : ℕ → ℕ → ℕ
  -- base level
  pub base : ℕ → Bool
  -- the distance in each of the directions 1 to 8; entry 0 is that of a cell to itself
  pub distance : ℕ → Float

-- How heights of a kind H are used by a routing.
pub record Kind (H : Type 0) : Type 0 where
  -- the key of a height: the cell with the lowest one leaves first
  pub key : H → ℕ
  -- max(a cell's own height, the spill height of the cell that reaches it)
  pub raised : H → H → H
  -- whether one height is strictly lower than another
  pub lower : H → H → Bool
  -- the slope down from one height to another over a distance
  pub slope : H → H → Float → Float
  -- what stands for a height outside the list
  pub absent : H

-- heights in binary32: height_key, max, <, and (from - to) / distance
abbrev pub floats : Kind Float
floats = record { key = key_of; raised = max_of; lower = lt; slope = λ a b d. div binary32 (sub binary32 a b) d; absent = nan }

-- a grid of w × h cells with eight neighbours each, for given distances and given base-level cells
abbrev pub ground_by : ℕ → ℕ → Distances → (ℕ → Bool) → Ground
ground_by w h distances base = record { cells = w * h; near = neighbour_at w h; base = base; distance = distance_in distances }

-- the grid of heights hs on a land: every cell on an open side and every cell at or below the water level is base
abbrev pub grid_ground : ℕ → ℕ → Land → List Float → Ground
grid_ground w h land hs = ground_by w h land.distances (base_on w h land.sides land.water_level hs)

-- document 01's land: four open sides and square cells
abbrev pub square_land : Float → Land
square_land water = record { water_level = water; sides = all_open; distances = square_distances }

-- no cell is base level
abbrev pub no_base : Ground → Bool
no_base g = not (some_below g.cells g.base)
