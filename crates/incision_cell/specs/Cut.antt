-- The incision of one cell, with the two formulas of document 01, 'Incision'.
use Rattle.std.specs.Prelude.{ℕ, ◌%◌, ◌<◌, cond, List, length, get_or, eqb, Float}
use Rattle.std.specs.Float.{nan, binary32}
use Rattle.std.specs.Float.Ieee.{of_bits, to_bits, add, mul, div, le}
use Rattle.floats.specs.Stand.{max_of}
use Rattle.receiver_steps.specs.Distance.{apart}
use Rattle.receiver_steps.specs.Step.{step_distances}
use Rattle.areas.specs.Words.{area_in, receiver_in}
use Rattle.incision_rates.specs.Rate.{rate_of}
use Rattle.incision_cell.specs.declared.Incision.{Incision}

-- k × root(max(area, 1e-4 × n) / n) / d
abbrev pub incision_coef : Float → Float → Float → Float → Float
incision_coef area n k d = div binary32 (rate_of area n k) d

-- (height + uplift + c × H) / (1 + c)
abbrev pub solved : Float → Float → Float → Float → Float
solved height uplift c down =
    div binary32 (add binary32 (add binary32 height uplift) (mul binary32 c down)) (add binary32 (of_bits binary32 0x3f80_0000) c)

-- the height H that cell c drains to: the water level if its receiver r is c itself, else max(below, water level),
-- where `below` is the height of r
abbrev pub drained_to : ℕ → ℕ → Float → Float → Float
drained_to c r below water = cond (eqb r c) water (max_of below water)

-- the new height of a cell by its coefficient c and the height `down` that it drains to; a cell with height ≤ water
-- level is skipped
abbrev pub cut_of : Float → Float → Float → Float → Float → Float
cut_of height uplift water c down = cond (le height water) height (solved height uplift c down)

-- the new height of cell c, from its own height `own` and the new height `below` of its receiver
abbrev pub cut_down : Incision → List Float → List ℕ → ℕ → Float → Float → Float
cut_down by areas recv c own below =
    cut_of own by.uplift by.water (incision_coef (get_or areas c nan) by.cells by.k (apart by.distances by.width c (get_or recv c 0)))
    (drained_to c (get_or recv c 0) below by.water)

-- the new height of cell c as in cut_down, with its area and the step to its receiver taken from its word
abbrev pub cut_by_word : Incision → List Float → ℕ → Float → Float → Float
cut_by_word by words c own below =
    cut_of own by.uplift by.water
    (incision_coef (area_in (get_or words c nan)) by.cells by.k (get_or (step_distances by.distances) (to_bits binary32 (get_or words c nan) % 16) nan))
    (drained_to c (receiver_in by.width c words) below by.water)

-- c is a cell of the slices, and so is its receiver
pub record CellOf (areas : List Float) (recv : List ℕ) (out : List Float) (c : ℕ) : Type 0 where
  pub area : c < length areas
  pub receiver : c < length recv
  pub result : c < length out
  pub below : get_or recv c 0 < length out
