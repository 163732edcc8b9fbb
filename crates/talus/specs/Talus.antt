-- Document 01, 'Talus': heights are read from the map at entry and the gains added to a copy, cells in number order.
-- The thresholds of the directions are an argument, entry d that of direction d; entry 0 stands for no direction.
use Rattle.std.specs.Prelude.{ℕ, suc, ◌+◌, ◌*◌, List, [], ◌∷◌, get_or, set, ltb, Float}
use Rattle.std.proofs.Math.Bool.{cond}
use Rattle.std.specs.Float.{nan}
use Rattle.std.specs.Float.Ieee.{binary32, of_bits, add, sub, mul, div, lt, le}
use Rattle.loops.specs.Loops.{turns}
use Rattle.floats.specs.Stand.{max_of}
use Rattle.grid.specs.Directions.{neighbour_at}
use Rattle.grid_spacing.specs.declared.Distances.{Distances}
use Rattle.talus.specs.declared.Shed.{Shed}

-- the eight thresholds of t in scan order, NW first: t toward the sides, t × the diagonal toward the corners
abbrev pub prepared_of : Float → Distances → List Float
prepared_of t ds =
    let diagonal = mul binary32 t ds.diagonal in
    diagonal ∷ t ∷ diagonal ∷ t ∷ t ∷ diagonal ∷ t ∷ diagonal ∷ []

-- The table of eight thresholds that are given in scan order: they are entries 1 to 8. Entry 0, which no direction
-- reads, is that of N, as `thresholds_of` has it.
abbrev pub table_of : List Float → List Float
table_of eight = get_or eight 1 nan ∷ eight

-- the threshold toward the sides, and × the diagonal toward the corners
abbrev pub thresholds_of : Float → Distances → List Float
thresholds_of t ds =
    let diagonal = mul binary32 t ds.diagonal in
    t ∷ diagonal ∷ t ∷ diagonal ∷ t ∷ t ∷ diagonal ∷ t ∷ diagonal ∷ []

-- the excess of cell c toward cell m over a threshold: (height - neighbour) - threshold
abbrev pub excess_over : List Float → ℕ → ℕ → Float → Float
excess_over hs c m t = sub binary32 (sub binary32 (get_or hs c nan) (get_or hs m nan)) t

module _ (ts : List Float) (hs : List Float) where
  -- the excess of cell c toward cell m over the threshold of direction d
  abbrev pub excess_to : ℕ → ℕ → ℕ → Float
  excess_to c m d = excess_over hs c m (get_or ts d nan)

  -- the total and the greatest of the excesses counted so far, with the excess toward m in direction d if it is > 0
  unfoldable pub shed_to : ℕ → ℕ → ℕ → Shed → Shed
  shed_to c m d s =
      cond (lt (of_bits binary32 0) (excess_to c m d))
      (record { total = add binary32 s.total (excess_to c m d); greatest = max_of s.greatest (excess_to c m d) })
      s

  -- the heights after cell m gains moved × excess / total, if the excess toward it in direction d is > 0
  unfoldable pub gain_to : ℕ → ℕ → Float → Float → ℕ → List Float → List Float
  gain_to c m moved total d out =
      cond (lt (of_bits binary32 0) (excess_to c m d))
      (set out m (add binary32 (get_or out m nan) (div binary32 (mul binary32 moved (excess_to c m d)) total)))
      out

module _ (w h : ℕ) (ts : List Float) (hs : List Float) where
  -- the neighbour in direction d is counted if there is one and the excess toward it is > 0
  unfoldable pub shed_step : ℕ → ℕ → Shed → Shed
  shed_step c d s = cond (ltb (neighbour_at w h c d) (w * h)) (shed_to ts hs c (neighbour_at w h c d) d s) s

  unfoldable pub shed_of : ℕ → Shed
  unfolding turns shed_step
  shed_of c = turns 8 (λ i. shed_step c (suc i)) (record { total = of_bits binary32 0; greatest = of_bits binary32 0 })

  -- the neighbour in direction d, if it is counted, gains moved × excess / total
  unfoldable pub gain_step : ℕ → Float → Float → ℕ → List Float → List Float
  gain_step c moved total d out = cond (ltb (neighbour_at w h c d) (w * h)) (gain_to ts hs c (neighbour_at w h c d) moved total d out) out

  unfoldable pub gains_of : ℕ → Float → Float → List Float → List Float
  unfolding turns gain_step
  gains_of c moved total out = turns 8 (λ i. gain_step c moved total (suc i)) out

  -- cell c loses `moved`, which is strength × greatest excess, and its counted neighbours gain
  abbrev pub moved_of : ℕ → Float → List Float → List Float
  moved_of c moved out = gains_of c moved (shed_of c).total (set out c (sub binary32 (get_or out c nan) moved))

  -- one cell: below the water level, or with no excess, it sheds nothing
  unfoldable pub slide_cell : Float → Float → ℕ → List Float → List Float
  unfolding shed_of gains_of
  slide_cell strength water c out =
      cond (lt (get_or hs c nan) water) out
      (cond (le (shed_of c).total (of_bits binary32 0)) out (moved_of c (mul binary32 strength (shed_of c).greatest) out))

  -- n cells of row y, from column x on
  unfoldable pub slide_cells : Float → Float → ℕ → ℕ → ℕ → List Float → List Float
  unfolding turns slide_cell
  slide_cells strength water y x n out = turns n (λ i. slide_cell strength water (x + i + y * w)) out

  -- one row, from the west
  unfoldable pub slide_row : Float → Float → ℕ → List Float → List Float
  unfolding turns slide_cell
  slide_row strength water y out = turns w (λ x. slide_cell strength water (x + y * w)) out
