-- The distances to the eight neighbours of a cell, and how the spacings of columns and rows give them.
use Rattle.std.specs.Prelude.{ℕ, ◌≡◌, List, [], ◌∷◌, get_or, Float}
use Rattle.std.specs.Float.{nan, binary32}
use Rattle.std.specs.Float.Ieee.{of_bits, add, mul}
use Rattle.square_root.specs.Root.{root_of}
use Rattle.grid_spacing.specs.declared.Spacing.{Spacing}
use Rattle.grid_spacing.specs.declared.Distances.{Distances}

-- 1: the side of document 01's square cell, and the distance of a cell to itself
abbrev pub cell_side : Float
cell_side = of_bits binary32 0x3f80_0000

-- the column spacing to W and E, the row spacing to N and S, else the root of the sum of their squares
abbrev pub distances_of : Spacing → Distances
distances_of s =
    record {
      column = s.column;
      row = s.row;
      diagonal = root_of (add binary32 (mul binary32 s.column s.column) (mul binary32 s.row s.row));
    }

abbrev pub square_cells : Spacing
square_cells = record { column = cell_side; row = cell_side }

-- the distances of document 01: 1 to W, E, N and S, `SQRT_2` to the corners
abbrev pub square_distances : Distances
square_distances = record { column = cell_side; row = cell_side; diagonal = of_bits binary32 0x3fb5_04f3 }

-- With both spacings 1 the distances are the source's constants.
abbrev pub SquareDistances : Type 0
SquareDistances = distances_of square_cells ≡ square_distances

-- the distances in the directions 1 to 8, in scan order: NW, N, NE, W, E, SW, S, SE
abbrev pub eight_of : Distances → List Float
eight_of d = d.diagonal ∷ d.row ∷ d.diagonal ∷ d.column ∷ d.column ∷ d.diagonal ∷ d.row ∷ d.diagonal ∷ []

-- the distances in the directions 0 to 8: entry 0, of a cell to itself, is 1
abbrev pub nine_of : Distances → List Float
nine_of d = cell_side ∷ eight_of d

abbrev pub distance_in : Distances → ℕ → Float
distance_in d k = get_or (nine_of d) k nan

-- Columns 2 apart and rows 1 apart: 2 to W and E, 1 to N and S, the root of 5 to the corners.
abbrev pub WideColumns : Type 0
WideColumns =
    let two = of_bits binary32 0x4000_0000 in
    let corner = of_bits binary32 0x400f_1bbd in
    eight_of (distances_of (record { column = two; row = cell_side })) ≡ (corner ∷ cell_side ∷ corner ∷ two ∷ two ∷ corner ∷ cell_side ∷ corner ∷ [])
