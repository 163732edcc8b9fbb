-- Base level: every cell on an open side, and every cell with height ≤ the water level. With four open sides that is
-- document 01's, 'Network': every border cell and every cell with height ≤ the water level.
use Rattle.std.specs.Prelude.{ℕ, ◌-◌, ◌≡◌, Bool, true, false, ◌&&◌, ◌||◌, List, get_or, eqb, Float}
use Rattle.std.specs.Float.{nan}
use Rattle.std.specs.Float.Ieee.{le}
use Rattle.grid.specs.Sides.{column_of, row_of}
use Rattle.grid.specs.declared.OpenSides.{OpenSides}

-- column x, row y lies on a side of the grid
abbrev pub on_border : ℕ → ℕ → ℕ → ℕ → Bool
on_border w h x y = eqb x 0 || eqb y 0 || eqb x (w - 1) || eqb y (h - 1)

abbrev pub border_at : ℕ → ℕ → ℕ → Bool
border_at w h c = on_border w h (column_of w c) (row_of w c)

-- x is an open end of a side: place 0 if `first` is open, place side - 1 if `last` is
abbrev pub open_end : Bool → Bool → ℕ → ℕ → Bool
open_end first last side x = (first && eqb x 0) || (last && eqb x (side - 1))

-- column x, row y lies on at least one open side
abbrev pub on_open : OpenSides → ℕ → ℕ → ℕ → ℕ → Bool
on_open o w h x y = open_end o.west o.east w x || open_end o.north o.south h y

-- column x, row y with this height is base level
abbrev pub base_at : ℕ → ℕ → OpenSides → Float → ℕ → ℕ → Float → Bool
base_at w h o water x y height = on_open o w h x y || le height water

-- cell c of a map with heights hs is base level
abbrev pub base_on : ℕ → ℕ → OpenSides → Float → List Float → ℕ → Bool
base_on w h o water hs c = base_at w h o water (column_of w c) (row_of w c) (get_or hs c nan)

abbrev pub all_open : OpenSides
all_open = record { north = true; east = true; south = true; west = true }

-- With four open sides base level is every border cell and every cell with height ≤ the water level.
abbrev pub AllOpen : Type 0
AllOpen = (w h : ℕ) (water : Float) (hs : List Float) (c : ℕ) → base_on w h all_open water hs c ≡ (border_at w h c || le (get_or hs c nan) water)

-- only the named side is open
abbrev pub only_north : OpenSides
only_north = record { north = true; east = false; south = false; west = false }

abbrev pub only_east : OpenSides
only_east = record { north = false; east = true; south = false; west = false }

abbrev pub only_south : OpenSides
only_south = record { north = false; east = false; south = true; west = false }

abbrev pub only_west : OpenSides
only_west = record { north = false; east = false; south = false; west = true }

-- The north side is the first row, the south side the last, the west side the first column, the east side the last.
pub record SidesAt (w h x y : ℕ) : Type 0 where
  pub north : on_open only_north w h x y ≡ eqb y 0
  pub east : on_open only_east w h x y ≡ eqb x (w - 1)
  pub south : on_open only_south w h x y ≡ eqb y (h - 1)
  pub west : on_open only_west w h x y ≡ eqb x 0

abbrev pub EachSide : Type 0
EachSide = (w h x y : ℕ) → SidesAt w h x y
