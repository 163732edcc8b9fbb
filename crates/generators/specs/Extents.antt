-- `get_min_max` and `normalize` of document 01, on lists of any length.
use Rattle.answers.specs.Outcome.{Answer}
use Rattle.std.specs.Prelude.{◌≡◌, Bool, not, ◌||◌, cond, List, [], ◌∷◌, map, Float}
use Rattle.std.specs.Float.{binary32}
use Rattle.std.specs.Float.Ieee.{of_bits, add, sub, mul, div, lt, eq}
use Rattle.std.specs.Float.Ieee.Scale.{finite}
use Rattle.answers.specs.Outcome.{Outcome, gives, refused, refused_at, given, answer_of}
use Rattle.grid.specs.Heights.{first_not_finite, all_finite}
use Rattle.generators.specs.declared.MinMax.{MinMax}

-- min and max with the value x added: above max it becomes max, else below min it becomes min
abbrev pub widened : MinMax → Float → MinMax
widened m x = cond (lt m.max x) (record { min = m.min; max = x }) (cond (lt x m.min) (record { min = x; max = m.max }) m)

unfoldable pub widened_by : MinMax → List Float → MinMax
widened_by m [] = m
widened_by m (x ∷ xs) = widened_by (widened m x) xs

-- (min, max) of a map, starting with its first value; +0 and +0 for an empty one
unfoldable pub min_max_of : List Float → MinMax
unfolding widened_by
min_max_of [] = record { min = of_bits binary32 0; max = of_bits binary32 0 }
min_max_of (x ∷ xs) = widened_by (record { min = x; max = x }) xs

-- the answer of `get_min_max`: (min, max), or 5 with the first height that is not finite
abbrev pub get_min_max_answer : List Float → Outcome MinMax
get_min_max_answer v = cond (all_finite v) (gives (min_max_of v)) (refused_at 5 (first_not_finite v))

-- 0 where min and max are equal, else (target_max - target_min) / (max - min)
abbrev pub slope_of : MinMax → Float → Float → Float
slope_of m lo hi = cond (eq m.min m.max) (of_bits binary32 0) (div binary32 (sub binary32 hi lo) (sub binary32 m.max m.min))

-- target_min + (value - min) × slope
abbrev pub scaled_by : Float → Float → Float → Float → Float
scaled_by min lo slope x = add binary32 lo (mul binary32 (sub binary32 x min) slope)

abbrev pub normalized_at : MinMax → Float → Float → Float → Float
normalized_at m lo hi = scaled_by m.min lo (slope_of m lo hi)

unfoldable pub normalized_of : List Float → Float → Float → List Float
unfolding min_max_of
normalized_of v lo hi = map (normalized_at (min_max_of v) lo hi) v

-- refusal 4: a target not finite
abbrev pub bad_targets : Float → Float → Bool
bad_targets lo hi = not (finite lo) || not (finite hi)

-- the answer of `normalize`: 4: a target not finite; 5: a height not finite; 22: a value of the result not finite
abbrev pub normalize_answer : List Float → Float → Float → Outcome (Unit {0})
normalize_answer v lo hi =
    cond (bad_targets lo hi) (refused 4)
    (cond (all_finite v) (cond (all_finite (normalized_of v lo hi)) (gives tt) (refused 22)) (refused_at 5 (first_not_finite v)))

-- what the slice holds at the end: the result, or on any refusal what it held
abbrev pub normalize_heights : List Float → Float → Float → List Float
normalize_heights v lo hi = cond (given (normalize_answer v lo hi)) (normalized_of v lo hi) v

-- r is the answer of `normalize` for v and the targets lo and hi, and `after` is what the slice holds at the end
pub record NormalizeMade (v : List Float) (lo hi : Float) (r : Answer) (after : List Float) : Type 0 where
  pub answer : answer_of r ≡ normalize_answer v lo hi
  pub heights : after ≡ normalize_heights v lo hi
