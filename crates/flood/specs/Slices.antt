-- The whole flood of document 01, as crates/drainage defines it, on slices.
use Rattle.std.specs.Prelude.{ℕ, ◌*◌, ◌≡◌, true, List, length, Float}
use Rattle.grid.specs.Sides.{InRange}
use Rattle.grid.specs.Heights.{all_finite}
use Rattle.drainage.specs.Ground.{floats, grid_ground}
use Rattle.drainage.specs.Flood.{flooded}
use Rattle.drainage.specs.declared.Land.{Land}

-- A grid that document 01 accepts.
pub record AcceptedGrid (w h : ℕ) (hs : List Float) : Type 0 where
  pub sides : InRange w h
  pub cells : length hs ≡ w * h
  pub finites : all_finite hs ≡ true

-- order, recv and spill are the order, the discoverers and the spill heights of the whole flood.
pub record Flooded (w h : ℕ) (land : Land) (hs : List Float) (order recv : List ℕ) (spill : List Float) : Type 0 where
  pub left : order ≡ (flooded floats (grid_ground w h land hs) hs).order
  pub found : recv ≡ (flooded floats (grid_ground w h land hs) hs).discoverer
  pub raised : spill ≡ (flooded floats (grid_ground w h land hs) hs).spill
