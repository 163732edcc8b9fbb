-- Receivers in the place of discoverers: the receiver of one cell.
use Rattle.std.specs.Prelude.{ℕ, ◌*◌, ◌<◌, ◌≡◌, List, Bool, ◌&&◌, cond, get_or, Float}
use Rattle.std.specs.Float.{nan, binary32}
use Rattle.std.specs.Float.Ieee.{lt, sub, div}
use Rattle.grid.specs.Directions.{Adjacent}
use Rattle.grid_spacing.specs.declared.Distances.{Distances}
use Rattle.drainage.specs.Ground.{floats, ground_by}
use Rattle.drainage.specs.Receivers.{Steepest, compared, receiver_of}
use Rattle.receiver.specs.declared.Best.{Best}

abbrev pub steepest_as : Best → Steepest
steepest_as b = record { cell = b.cell; slope = b.slope }

-- the slope from cell c down to cell m over a distance
abbrev pub slope_down : List Float → ℕ → ℕ → Float → Float
slope_down spill c m distance = div binary32 (sub binary32 (get_or spill c nan) (get_or spill m nan)) distance

-- m, by `cell`, if its spill height is strictly lower than that of c and its slope strictly greater, else the receiver
-- so far; m lies in direction d of cell c
abbrev pub compared_as : List Float → List Float → ℕ → ℕ → ℕ → ℕ → Best → Best
compared_as by-direction spill c d m cell best =
    let slope = slope_down spill c m (get_or by-direction d nan) in
    cond (lt (get_or spill m nan) (get_or spill c nan) && lt best.slope slope) (record { cell = cell; slope = slope }) best

-- r is the receiver of c after cell m, in direction d, was compared with `best`, the one before, whatever cells are
-- base level
pub record Compared (ds : Distances) (w h : ℕ) (spill : List Float) (c d m : ℕ) (best r : Best) : Type 0 where
  pub is : (base : ℕ → Bool) → steepest_as r ≡ compared floats (ground_by w h ds base) spill c d m (steepest_as best)
  pub inside : best.cell < w * h → r.cell < w * h

-- r is the receiver of cell c, whose discoverer is f, whatever cells are base level; r is a cell of the grid
pub record Received (ds : Distances) (w h : ℕ) (spill : List Float) (c f r : ℕ) : Type 0 where
  pub is : (base : ℕ → Bool) → r ≡ receiver_of floats (ground_by w h ds base) spill c f
  pub inside : r < w * h

-- every discoverer is the cell itself or a neighbour
pub record Discoverers (w h : ℕ) (recv : List ℕ) : Type 0 where
  pub near : (c : ℕ) → c < w * h → (get_or recv c 0 ≡ c → ⊥) → Adjacent w h c (get_or recv c 0)
