-- 'All heights are finite': one definition over the list of heights, for refusal 5 and for every refusal 22 but that of
-- `bilinear`.
use Rattle.std.specs.Prelude.{ℕ, suc, ◌<◌, ◌≡◌, Bool, true, false, cond, List, [], ◌∷◌, length, get_or, eqb, Float}
use Rattle.std.specs.Float.{nan}
use Rattle.std.specs.Float.Ieee.Scale.{finite}

-- the first cell, row by row, whose height is not finite; the number of cells where every height is finite
unfoldable pub first_not_finite : List Float → ℕ
first_not_finite [] = 0
first_not_finite (x ∷ xs) = cond (finite x) (suc (first_not_finite xs)) 0

unfoldable pub all_finite : List Float → Bool
unfolding first_not_finite
all_finite hs = eqb (first_not_finite hs) (length hs)

-- every height below place n is finite
pub record FiniteBelow (hs : List Float) (n : ℕ) : Type 0 where
  pub each : (i : ℕ) → i < n → finite (get_or hs i nan) ≡ true

-- c is the first place whose height is not finite
pub record FirstBad (hs : List Float) (c : ℕ) : Type 0 where
  pub place : c < length hs
  pub bad : finite (get_or hs c nan) ≡ false
  pub earlier : FiniteBelow hs c
