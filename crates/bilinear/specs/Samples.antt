-- `bilinear`: the sample between the four cells around a place.
use Rattle.std.specs.Prelude.{ℕ, ◌+◌, ◌*◌, Bool, not, ◌&&◌, ◌||◌, cond, List, length, get_or, eqb, ltb, Float}
use Rattle.std.specs.Float.{nan, binary32}
use Rattle.std.specs.Float.Ieee.{of_bits, add, sub, mul, lt, le}
use Rattle.std.specs.Float.Ieee.Scale.{finite}
use Rattle.answers.specs.Outcome.{Outcome, gives, refused, refused_at}
use Rattle.floats.specs.Stand.{fract_of, index_of, whole}
use Rattle.grid.specs.Sides.{bad_sides}
use Rattle.grid.specs.Heights.{first_not_finite, all_finite}

-- What stands for a sample past the east or the south edge. `as_source`: the north-west one, so that it is the
-- south-east sample as soon as either far edge is reached, the north-east one at the east edge and the south-west one
-- at the south edge.
pub data FarEdge : Type 0 where
  as_source : FarEdge

-- the cell of the sample that lies `east` columns east and `south` rows south (0 or 1) of column x, row y
abbrev pub corner_of : FarEdge → ℕ → ℕ → ℕ → ℕ → ℕ → ℕ → ℕ
corner_of as_source w h x y east south = cond (ltb (x + east) w && ltb (y + south) h) (x + east + (y + south) * w) (x + y * w)

-- (1 - d) × a + d × b
abbrev pub between : Float → Float → Float → Float
between d a b = add binary32 (mul binary32 (sub binary32 (of_bits binary32 0x3f80_0000) d) a) (mul binary32 d b)

-- the value dx of the way from the west sample to the east one, both `south` rows south of row iy
abbrev pub across_of : FarEdge → List Float → ℕ → ℕ → ℕ → Float → ℕ → ℕ → Float
across_of kind v w h ix dx iy south = between dx (get_or v (corner_of kind w h ix iy 0 south) nan) (get_or v (corner_of kind w h ix iy 1 south) nan)

-- the bilinear sample dx of the way from column ix to the next and dy of the way from row iy to the next
abbrev pub bilinear_at : FarEdge → List Float → ℕ → ℕ → ℕ → Float → ℕ → Float → Float
bilinear_at kind v w h ix dx iy dy = between dy (across_of kind v w h ix dx iy 0) (across_of kind v w h ix dx iy 1)

-- the sample at column x, row y, both in cells
unfoldable pub bilinear_of : FarEdge → List Float → ℕ → ℕ → Float → Float → Float
bilinear_of kind v w h x y = bilinear_at kind v w h (index_of w x) (fract_of x) (index_of h y) (fract_of y)

-- refusal 4: a sample coordinate that is not from 0 to below its side
abbrev pub bad_coordinate : Float → ℕ → Bool
bad_coordinate x side = not (le (of_bits binary32 0) x && lt x (whole side))

-- 1: a side; 3: the length; 4: a coordinate; 5: a value not finite; else `then`. `number` gives the result of a refusal
-- by its number, `at` that of a refusal with a cell
abbrev pub bilinear_refusal : {A : Type 0} → List Float → Float → Float → ℕ → ℕ → (ℕ → A) → (ℕ → ℕ → A) → A → A
bilinear_refusal v x y w h number at then =
    cond (bad_sides w h) (number 1)
    (cond (not (eqb (length v) (w * h))) (number 3)
    (cond (bad_coordinate x w || bad_coordinate y h) (number 4) (cond (all_finite v) then (at 5 (first_not_finite v)))))

-- the answer of `bilinear`: the refusals of `bilinear_refusal`, then 22: the sample not finite; else the sample
abbrev pub bilinear_answer : List Float → Float → Float → ℕ → ℕ → Outcome Float
bilinear_answer v x y w h =
    bilinear_refusal v x y w h refused refused_at (cond (finite (bilinear_of as_source v w h x y)) (gives (bilinear_of as_source v w h x y)) (refused 22))
