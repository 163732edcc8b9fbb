-- What a row keeps: the number of heights, and that binary32 holds every one of them.
use Prim.Native.Nat.{ℕ, suc, ◌+◌, ◌*◌}
use mathlib.Core.Path.{◌≡◌, refl, ◌∙◌}
use mathlib.Core.List.{List}
use lib.ListN.{length, get_or, set, length-set}
use lib.Dec.{ltb}
use lib.Ieee.{Float, nan, binary32, of_bits, add, sub, lt, le}
use lib.Ieee.Fits.{add-fits, sub-fits}
use Rattle.loops.proofs.TestLaws.{either}
use Rattle.loops.proofs.TurnLaws.{turns_keep}
use Rattle.grid.specs.Directions.{neighbour_at}
use Rattle.float_order.specs.Fit.{Fit}
use Rattle.float_order.proofs.FitLaws.{fit_set}
use Rattle.talus.specs.Talus.{excess_to, shed_of, gain_to, gain_step, gains_of, slide_cell, slide_row}

-- what a loss and a gain keep, a row keeps
module _ (P : List Float → Type 0) (gained : (l : List Float) (i : ℕ) (a b : Float) → P l → P (set l i (add binary32 a b)))
    (lost : (l : List Float) (i : ℕ) (a b : Float) → P l → P (set l i (sub binary32 a b)))
    (w h : ℕ) (ts hs : List Float) where
  gains_keep : (c : ℕ) (moved total : Float) (out : List Float) → P out → P (gains_of w h ts hs c moved total out)
  unfolding gains_of gain_step gain_to
  gains_keep c moved total out p =
      turns_keep (λ i. gain_step w h ts hs c moved total (suc i)) P out 8 p
      (λ i t l q. either P (ltb (neighbour_at w h c (suc i)) (w * h)) _ _ (either P (lt (of_bits binary32 0) (excess_to ts hs c (neighbour_at w h c (suc i)) (suc i))) _ _ (gained t _ _ _ q) q) q)

  cell_keeps : (strength water : Float) (c : ℕ) (out : List Float) → P out → P (slide_cell w h ts hs strength water c out)
  unfolding slide_cell
  cell_keeps strength water c out p =
      either P (lt (get_or hs c nan) water) _ _ p
      (either P (le (shed_of w h ts hs c).total (of_bits binary32 0)) _ _ p (gains_keep c _ _ _ (lost out c _ _ p)))

  pub row_keeps : (strength water : Float) (y : ℕ) (out : List Float) → P out → P (slide_row w h ts hs strength water y out)
  unfolding slide_row
  row_keeps strength water y out p =
      turns_keep (λ x. slide_cell w h ts hs strength water (x + y * w)) P out w p (λ x t l q. cell_keeps strength water (x + y * w) t q)

module _ (w h : ℕ) (ts hs : List Float) (strength water : Float) (y : ℕ) (out : List Float) where
  pub row_length_lem : length (slide_row w h ts hs strength water y out) ≡ length out
  row_length_lem =
      row_keeps (λ l. length l ≡ length out) (λ l i a b e. length-set l i _ ∙ e) (λ l i a b e. length-set l i _ ∙ e) w h ts hs strength water y out refl

  pub row_fit : Fit out → Fit (slide_row w h ts hs strength water y out)
  row_fit =
      row_keeps Fit (λ l i a b f. fit_set l i _ f (add-fits binary32 a b)) (λ l i a b f. fit_set l i _ f (sub-fits binary32 a b)) w h ts hs strength water y out
