-- The first number for which a test fails.
use Rattle.std.specs.Prelude.{ℕ, zero, suc, ◌≤◌, ◌<◌, ◌≡◌, Bool, true, false, cond, eqb}

-- the first number below n for which p is false; n where p is true for all of them
unfoldable pub first_failing : ℕ → (ℕ → Bool) → ℕ
first_failing zero p = 0
first_failing (suc n) p = let f = first_failing n p in cond (eqb f n) (cond (p n) (suc n) n) f

-- f is the first number below n for which p is false, or n where there is none: p is true for every number before f
pub record First (n : ℕ) (p : ℕ → Bool) (f : ℕ) : Type 0 where
  pub bound : f ≤ n
  pub earlier : (i : ℕ) → i < f → p i ≡ true
  pub fails : f < n → p f ≡ false
