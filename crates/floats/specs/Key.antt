-- `height_key` of document 01, 'Network': the bits of a float, changed so that keys compare as floats do. A float whose
-- sign bit is set has all its bits inverted, so -2 lies below -1; any other gets its sign bit set, so it lies above
-- those. -0 comes just before +0.
use Rattle.std.specs.Prelude.{ℕ, ◌+◌, ◌-◌, ◌^◌, cond, nat_le, to_bits, Float}
use Rattle.std.specs.Float.{binary32}

abbrev pub folded : ℕ → ℕ
folded b = cond (nat_le (2 ^ 31) b) (2 ^ 32 - 1 - b) (2 ^ 31 + b)

abbrev pub key_of : Float → ℕ
key_of x = folded (to_bits binary32 x)
