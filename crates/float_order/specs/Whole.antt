-- Whole numbers as binary32 floats: up to 2 ^ 24 each is one float, and sums are exact.
use Rattle.std.specs.Prelude.{◌≡◌, ℕ, ◌+◌, ◌^◌, ◌≤◌, ltb}
use Rattle.std.specs.Float.{binary32}
use Rattle.std.specs.Float.Ieee.{add, lt, of_bits}
use Rattle.floats.specs.Stand.{whole}

-- Whole numbers with a sum of at most 2 ^ 24 add without rounding; different ones up to 2 ^ 24 are different floats and
-- keep their order. 0 and 1 are the floats that the code writes.
pub record WholeNumbers : Type 0 where
  pub sum : (a b : ℕ) → a + b ≤ 2 ^ 24 → add binary32 (whole a) (whole b) ≡ whole (a + b)
  pub unique : (a b : ℕ) → a ≤ 2 ^ 24 → b ≤ 2 ^ 24 → whole a ≡ whole b → a ≡ b
  pub less : (a b : ℕ) → a ≤ 2 ^ 24 → b ≤ 2 ^ 24 → lt (whole a) (whole b) ≡ ltb a b
  pub none : whole 0 ≡ of_bits binary32 0
  pub one : whole 1 ≡ of_bits binary32 0x3f80_0000
