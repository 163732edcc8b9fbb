-- Receivers, document 01, 'Network': each non-base cell takes the neighbour of strictly lower spill and greatest slope
-- (spill difference / distance) if that slope is strictly greater than the present receiver's; the first in scan order
-- wins.
use Rattle.std.specs.Prelude.{ℕ, suc, ◌&&◌, List, get_or, eqb, ltb, Float}
use Rattle.std.proofs.Math.Bool.{cond}
use Rattle.std.specs.Float.Ieee.{lt}
use Rattle.loops.specs.Loops.{turns, tabulate}
use Rattle.drainage.specs.Ground.{Ground, Kind}

-- the direction from cell c to its neighbour r: the last of 1 to 8 that leads there; 0 where none does, as from a cell
-- to itself
unfoldable pub direction_to : Ground → ℕ → ℕ → ℕ
unfolding turns
direction_to g c r = turns 8 (λ i d. cond (eqb (g.near c (suc i)) r) (suc i) d) 0

abbrev pub distance_to : Ground → ℕ → ℕ → Float
distance_to g c r = g.distance (direction_to g c r)

-- the receiver so far, and the slope to it
pub record Steepest : Type 0 where
  pub cell : ℕ
  pub slope : Float

module _ {H : Type 0} (k : Kind H) (g : Ground) (spill : List H) where
  abbrev pub spill_at : ℕ → H
  spill_at c = get_or spill c k.absent

  -- neighbour m of c in direction d, if it is a cell with a strictly lower spill height and a strictly greater slope,
  -- else the receiver so far
  abbrev pub compared : ℕ → ℕ → ℕ → Steepest → Steepest
  compared c d m best =
      cond
      (ltb m g.cells && (k.lower (spill_at m) (spill_at c) && lt best.slope (k.slope (spill_at c) (spill_at m) (g.distance d))))
      (record { cell = m; slope = k.slope (spill_at c) (spill_at m) (g.distance d) })
      best

  unfoldable pub steepest_of : ℕ → ℕ → Steepest
  unfolding turns direction_to
  steepest_of c r =
      turns 8 (λ i. compared c (suc i) (g.near c (suc i))) (record { cell = r; slope = k.slope (spill_at c) (spill_at r) (distance_to g c r) })

  -- the receiver of c, whose discoverer is r: a cell that is its own discoverer is base level and keeps it
  unfoldable pub receiver_of : ℕ → ℕ → ℕ
  unfolding steepest_of
  receiver_of c r = cond (eqb r c) c (steepest_of c r).cell

  unfoldable pub receivers : List ℕ → List ℕ
  unfolding tabulate receiver_of
  receivers discoverer = tabulate g.cells (λ c. receiver_of c (get_or discoverer c 0))
