-- The losses of inner cells of a row and the gains of their neighbours, by each cell's total of excesses and its loss.
use Rattle.std.specs.Prelude.{ℕ, suc, ◌+◌, ◌*◌, ◌≡◌, cond, List, get_or, set, Float}
use Rattle.std.specs.Float.{nan, binary32}
use Rattle.std.specs.Float.Ieee.{of_bits, add, sub, mul, div, lt, le}
use Rattle.loops.specs.Loops.{turns}
use Rattle.grid.specs.Directions.{neighbour_at}
use Rattle.grid_inner.specs.Inner.{InnerRun}
use Rattle.talus.specs.Talus.{excess_to}
use Rattle.talus.specs.Places.{InRow}

-- the n cells from column x on, in row y, are inner cells of a w × h map of `cells` heights
pub record InnerRow (w h cells y x n : ℕ) : Type 0 where
  pub inner : InnerRun w h (x + y * w) n
  pub row : InRow w h cells y x n

-- a height after the loss of its cell, if the cell sheds; then a height after its gain by the excess e of a cell, if
-- that cell sheds and e is counted
abbrev pub lost_from : Float → Float → Float → Float
lost_from total moved old = cond (le total (of_bits binary32 0)) old (sub binary32 old moved)

abbrev pub gained_by : Float → Float → Float → Float → Float
gained_by e total moved old =
    cond (le total (of_bits binary32 0)) old (cond (lt (of_bits binary32 0) e) (add binary32 old (div binary32 (mul binary32 moved e) total)) old)

-- the heights, with f applied to that of cell m
abbrev pub changed : (Float → Float) → ℕ → List Float → List Float
changed f m out = set out m (f (get_or out m nan))

-- the losses of the first n cells from column x on, in row y
module _ (w y x : ℕ) (totals moved : List Float) where
  abbrev pub loss_of : ℕ → List Float → List Float
  loss_of i = changed (lost_from (get_or totals i nan) (get_or moved i nan)) (x + i + y * w)

  unfoldable pub losses : ℕ → List Float → List Float
  unfolding turns
  losses n out = turns n loss_of out

-- the gains of the neighbours in direction d of the first n cells from column x on, in row y
module _ (w h : ℕ) (ts hs : List Float) (y x : ℕ) (totals moved : List Float) where
  abbrev pub gain_of : ℕ → ℕ → List Float → List Float
  gain_of d i =
      let c = x + i + y * w in
      let m = neighbour_at w h c d in
      changed (gained_by (excess_to ts hs c m d) (get_or totals i nan) (get_or moved i nan)) m

  unfoldable pub gains_toward : ℕ → ℕ → List Float → List Float
  unfolding turns
  gains_toward d n out = turns n (gain_of d) out

  -- cell i slid by its total and its loss: the loss, then the gains in the order of the directions
  abbrev pub slide_by : ℕ → List Float → List Float
  slide_by i out = turns 8 (λ k. gain_of (suc k) i) (loss_of w y x totals moved i out)

  -- the first n cells slid, one after the other
  unfoldable pub slide_all : ℕ → List Float → List Float
  unfolding turns
  slide_all n out = turns n slide_by out

  -- the first n cells slid direction by direction: NE, N, NW, E, the losses, W, SE, S, SW
  abbrev pub slide_loops : ℕ → List Float → List Float
  slide_loops n out =
      let north = gains_toward 1 n (gains_toward 2 n (gains_toward 3 n out)) in
      let own = gains_toward 4 n (losses w y x totals moved n (gains_toward 5 n north)) in
      gains_toward 6 n (gains_toward 7 n (gains_toward 8 n own))

-- Directions outside and cells inside leave the same heights as cells outside and directions inside, of any n inner
-- cells of a row.
abbrev pub LoopsCells : Type 0
LoopsCells =
    (w h : ℕ) (ts hs : List Float) (y x : ℕ) (totals moved : List Float) (cells n : ℕ) → InnerRow w h cells y x n
    → (out : List Float) → slide_loops w h ts hs y x totals moved n out ≡ slide_all w h ts hs y x totals moved n out
