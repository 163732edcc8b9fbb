-- Counts and sums over the numbers below m, and how often a number stands in a list.
use Rattle.std.specs.Prelude.{ℕ, zero, suc, ◌+◌, Bool, cond, List, [], ◌∷◌, eqb}

-- 1 if two numbers are the same, else 0
abbrev pub one_if : ℕ → ℕ → ℕ
one_if a b = cond (eqb a b) 1 0

-- how often c stands in a list
unfoldable pub times : ℕ → List ℕ → ℕ
times c [] = 0
times c (a ∷ l) = one_if a c + times c l

-- the number of i below m for which p i is true
unfoldable pub count_below : ℕ → (ℕ → Bool) → ℕ
count_below zero p = 0
count_below (suc m) p = cond (p m) 1 0 + count_below m p

-- the sum of f i over the i below m for which p i is true
unfoldable pub sum_below : ℕ → (ℕ → Bool) → (ℕ → ℕ) → ℕ
sum_below zero p f = 0
sum_below (suc m) p f = cond (p m) (f m) 0 + sum_below m p f
