-- What the inner functions of the code promise.
use Rattle.std.specs.Prelude.{ℕ, ◌+◌, ◌-◌, ◌*◌, ◌/◌, ◌%◌, ◌^◌, ◌≤◌}
use Rattle.square_root.specs.Root.{whole_root, nearest_root}

-- s is at most e away from the whole root of n
pub record Around (n e s : ℕ) : Type 0 where
  pub least : whole_root n ≤ s + e
  pub most : s ≤ whole_root n + e

-- s is the whole root of n, or up to e above it
pub record Over (n e s : ℕ) : Type 0 where
  pub least : whole_root n ≤ s
  pub most : s ≤ whole_root n + e

-- sig * 2 ^ 23, doubled where p is even: sig * 2 ^ p, for a sig of 24 binary digits, is this number of 47 or 48 binary
-- digits times an even power of two
abbrev pub scaled_to : ℕ → ℕ → ℕ
scaled_to sig p = sig * 2 ^ 23 * (2 - p % 2)

-- the bits of the root of sig * 2 ^ p / 2 ^ 214: the leading digit of the nearest root adds 1 to the exponent field,
-- and a nearest root of 2 ^ 24 adds 2
abbrev pub bits_of : ℕ → ℕ → ℕ
bits_of sig p = ((p + 63) / 2 - 1) * 2 ^ 23 + nearest_root (scaled_to sig p)
