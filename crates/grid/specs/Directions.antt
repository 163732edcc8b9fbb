-- Document 01, 'Directions': the eight neighbours are scanned NW, N, NE, W, E, SW, S, SE, as entries 1 to 8 of the
-- source's tables have them.
use Rattle.std.specs.Prelude.{ℕ, suc, ◌+◌, ◌-◌, ◌*◌, ◌≤◌, ◌<◌, ◌≡◌, ◌&&◌, cond, List, [], ◌∷◌, ℤ, pos, negsuc, nat_abs, get_or, ltb}
use Rattle.grid.specs.Sides.{column_of, row_of}

abbrev pub dir_x : List ℤ
dir_x = pos 0 ∷ negsuc 0 ∷ pos 0 ∷ pos 1 ∷ negsuc 0 ∷ pos 1 ∷ negsuc 0 ∷ pos 0 ∷ pos 1 ∷ []

abbrev pub dir_y : List ℤ
dir_y = pos 0 ∷ negsuc 0 ∷ negsuc 0 ∷ negsuc 0 ∷ pos 0 ∷ pos 0 ∷ pos 1 ∷ pos 1 ∷ pos 1 ∷ []

-- x moved by d, or the side itself where that leaves 0 … side - 1
abbrev pub shifted_of : ℕ → ℤ → ℕ → ℕ
shifted_of x (pos k) side = cond (ltb (x + k) side) (x + k) side
shifted_of x (negsuc k) side = cond (ltb k x) (x - suc k) side

-- x is a place on a side of at most 4,096, and d is a step of at most 1
pub record AlongSide (x : ℕ) (d : ℤ) (side : ℕ) : Type 0 where
  pub inside : x < side
  pub bound : side ≤ 4096
  pub small : nat_abs d ≤ 1

-- column x, row y is a cell of a grid with sides of at most 4,096
pub record Place (w h x y : ℕ) : Type 0 where
  pub column : x < w
  pub row : y < h
  pub wide : w ≤ 4096
  pub high : h ≤ 4096

-- a step of at most one column and at most one row
pub record Step (dx dy : ℤ) : Type 0 where
  pub columns : nat_abs dx ≤ 1
  pub rows : nat_abs dy ≤ 1

-- the cell dx columns and dy rows from column x, row y; outside the grid it is w × h, the number of no cell
unfoldable pub stepped_of : ℕ → ℕ → ℕ → ℕ → ℤ → ℤ → ℕ
stepped_of w h x y dx dy =
    let nx = shifted_of x dx w in
    let ny = shifted_of y dy h in
    cond (ltb nx w && ltb ny h) (nx + ny * w) (w * h)

-- the neighbour of column x, row y in direction d
unfoldable pub neighbour_of : ℕ → ℕ → ℕ → ℕ → ℕ → ℕ
unfolding stepped_of
neighbour_of w h x y d = stepped_of w h x y (get_or dir_x d (pos 0)) (get_or dir_y d (pos 0))

abbrev pub stepped_at : ℕ → ℕ → ℕ → ℤ → ℤ → ℕ
stepped_at w h c dx dy = stepped_of w h (column_of w c) (row_of w c) dx dy

abbrev pub neighbour_at : ℕ → ℕ → ℕ → ℕ → ℕ
neighbour_at w h c d = neighbour_of w h (column_of w c) (row_of w c) d

-- b is a neighbour of a: one of the directions 1 to 8 leads from a to b
pub record Adjacent (w h a b : ℕ) : Type 0 where
  pub direction : ℕ
  pub first : 1 ≤ direction
  pub last : direction ≤ 8
  pub inside : b < w * h
  pub leads : neighbour_at w h a direction ≡ b

-- b is reached from a by steps to neighbours
pub data Reaches (w h : ℕ) : ℕ → ℕ → Type 0 where
  here : {a : ℕ} → Reaches w h a a
  step : {a b c : ℕ} → Adjacent w h a b → Reaches w h b c → Reaches w h a c
