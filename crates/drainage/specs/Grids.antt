-- The theorems' premises for the grids that document 01 accepts, sides 1 to 4,096 and finite binary32 heights, where
-- some cell is base level. Heights compare as their ranks.
use Rattle.std.specs.Prelude.{ℕ, ◌*◌, ◌≡◌, true, false, List, T, length, Float}
use Rattle.std.specs.Float.{binary32}
use Rattle.std.specs.Float.Ieee.{fits}
use Rattle.std.specs.Float.Ieee.Scale.{finite}
use Rattle.float_order.specs.Order.{rank}
use Rattle.float_order.specs.Fit.{Fit}
use Rattle.grid.specs.Sides.{InRange}
use Rattle.grid.specs.Heights.{all_finite}
use Rattle.drainage.specs.Ground.{floats, grid_ground, no_base}
use Rattle.drainage.specs.declared.Land.{Land}
use Rattle.drainage.specs.Theorems.{Network}

-- a height that document 01 accepts
pub record Height (x : Float) : Type 0 where
  pub fit : T (fits binary32 x)
  pub real : T (finite x)

-- A map in range that is open to the north has a base cell.
abbrev pub NorthBased : Type 0
NorthBased = (w h : ℕ) (land : Land) (hs : List Float) → InRange w h → land.sides.north ≡ true → no_base (grid_ground w h land hs) ≡ false

-- Every routing of a grid in range with a base cell, whatever its open sides and distances, is a network.
abbrev pub GridNetworks : Type 0
GridNetworks = (w h : ℕ) (land : Land) (hs : List Float) → InRange w h → length hs ≡ w * h → Fit hs → all_finite hs ≡ true → no_base (grid_ground w h land hs) ≡ false
    → Network floats (grid_ground w h land hs) hs rank
