-- A routing: the flood's order and spill heights, the receivers, and the areas along that order.
use Rattle.std.specs.Prelude.{List, ℕ, Float}
use Rattle.drainage.specs.Ground.{Ground, Kind, floats}
use Rattle.drainage.specs.Flood.{flooded}
use Rattle.drainage.specs.Receivers.{receivers}
use Rattle.drainage.specs.Ways.{areas_along}

-- heights hs of any kind on a ground
module _ {H : Type 0} (k : Kind H) (g : Ground) (hs : List H) where
  abbrev pub order_of : List ℕ
  order_of = (flooded k g hs).order

  abbrev pub spill_of : List H
  spill_of = (flooded k g hs).spill

  abbrev pub receivers_of : List ℕ
  receivers_of = receivers k g (flooded k g hs).spill (flooded k g hs).discoverer

-- floats hs on the ground that they give
module _ (ground_of : List Float → Ground) (hs : List Float) where
  abbrev pub order_on : List ℕ
  order_on = order_of floats (ground_of hs) hs

  abbrev pub spill_on : List Float
  spill_on = spill_of floats (ground_of hs) hs

  abbrev pub receivers_on : List ℕ
  receivers_on = receivers_of floats (ground_of hs) hs

  abbrev pub areas_on : List Float
  areas_on = areas_along (ground_of hs).cells receivers_on order_on
