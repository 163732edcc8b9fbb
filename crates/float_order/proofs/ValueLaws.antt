-- What the bits of a float tell: floats that binary32 holds are equal if their bits are, and the bits depend on sign and size alone. That a float is
-- fixed by its sign and value is `value_unique` of crates/floats/proofs/ValueLaws.antt.
use mathlib.Core.Path.{◌≡◌, sym, ap, ◌∙◌}
use Prim.Native.Nat.{ℕ, ◌+◌, ◌-◌, ◌*◌, ◌/◌, ◌^◌}
use mathlib.Core.Bool.{Bool, cond}
use lib.Dec.{T}
use lib.Ieee.{Float, binary32, size, fits, to_bits, of_bits}
use lib.Ieee.Bits.{of_bits-to_bits}

-- the bits tell apart what fits
pub bits_unique : (x y : Float) → T (fits binary32 x) → T (fits binary32 y) → to_bits binary32 x ≡ to_bits binary32 y → x ≡ y
bits_unique x y p q h = sym (of_bits-to_bits binary32 x p) ∙ ap (of_bits binary32) h ∙ of_bits-to_bits binary32 y q

-- the bits of a finite float, from its sign and its size n in units of 2 ^ -149
abbrev pub bits_of : Bool → ℕ → ℕ
bits_of s n = cond s (2 ^ 31) 0 + (size n - 24) * 2 ^ 23 + n / 2 ^ (size n - 24)
