-- The three ends of a cell: below the water, with nothing to shed, and shedding.
use Prim.Native.Nat.{ℕ}
use mathlib.Core.Path.{◌≡◌}
use mathlib.Core.Bool.{true, false}
use mathlib.Core.List.{List}
use lib.ListN.{get_or, set}
use lib.Ieee.{Float, nan, binary32, of_bits, sub, mul, lt, le}
use Rattle.talus.specs.Talus.{shed_of, gains_of, slide_cell}
use Rattle.talus.specs.declared.Shed.{Shed}

module _ (w h : ℕ) (ts hs : List Float) (strength water : Float) (c : ℕ) (out : List Float) where
  pub slide_under : lt (get_or hs c nan) water ≡ true → out ≡ slide_cell w h ts hs strength water c out
  unfolding slide_cell
  slide_under u = rw u

  module _ (s : Shed) (e : s ≡ shed_of w h ts hs c) (above : lt (get_or hs c nan) water ≡ false) where
    pub slide_still : le s.total (of_bits binary32 0) ≡ true → out ≡ slide_cell w h ts hs strength water c out
    unfolding slide_cell
    slide_still t = rw (above, ← e, t)

    pub slide_moved : (r : List Float)
        → le s.total (of_bits binary32 0) ≡ false
        → r ≡ gains_of w h ts hs c (mul binary32 strength s.greatest) s.total (set out c (sub binary32 (get_or out c nan) (mul binary32 strength s.greatest)))
        → r ≡ slide_cell w h ts hs strength water c out
    unfolding slide_cell
    slide_moved r t g = rw (above, ← e, t) g
