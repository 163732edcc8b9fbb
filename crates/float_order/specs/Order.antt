-- The order of floats as an order of whole numbers. A float that is no NaN has a rank: 2 ^ 277 plus its value in units
-- of 2 ^ -149, the smallest positive float, so that no rank is negative. Both zeros have the same rank.
use Rattle.std.specs.Prelude.{◌≡◌, ◌⊎◌, Bool, false, not, cond, ℕ, ◌+◌, ◌-◌, ◌*◌, ◌/◌, ◌^◌, ◌≤◌, ◌<◌, max, T, ltb, leb, eqb, pos, Float}
use Rattle.std.specs.Float.{nan, inf, fin, binary32}
use Rattle.std.specs.Float.Ieee.{up, down, lt, le, eq, fits, is_nan}
use Rattle.floats.specs.Stand.{max_of}
use Rattle.floats.specs.Key.{key_of}

-- x is a number: binary32 holds it, and it is no NaN. The infinities count as ± 2 ^ 128, which no finite float reaches.
pub record Number (x : Float) : Type 0 where
  pub fit : T (fits binary32 x)
  pub real : T (not (is_nan x))

-- the sign of x; `units_of`: its absolute value in units of 2 ^ -149
abbrev pub sign_of : Float → Bool
sign_of nan = false
sign_of (inf s) = s
sign_of (fin s m e) = s

abbrev pub units_of : Float → ℕ
units_of nan = 0
units_of (inf s) = 2 ^ 277
units_of (fin s m e) = m * up e * 2 ^ 149 / down e

-- b - n where the sign s is set (negative), else b + n
abbrev pub signed : ℕ → Bool → ℕ → ℕ
signed b s n = cond s (b - n) (b + n)

unfoldable pub rank : Float → ℕ
rank nan = 0
rank (inf s) = signed (2 ^ 277) s (units_of (inf s))
rank (fin s m e) = signed (2 ^ 277) s (units_of (fin s m e))

-- x is +0 or -0
abbrev pub Zero : Float → Type 0
Zero x = (s : Bool) × (x ≡ fin s 0 (pos 0))

-- Numbers compare as their ranks do, so they are totally ordered, and the rank of max(a, b) is the greater of the two
-- ranks. Numbers of the same rank are the same float, or both are zeros.
pub record RankFollowsOrder : Type 0 where
  pub less : (x y : Float) → Number x → Number y → lt x y ≡ ltb (rank x) (rank y)
  pub at_most : (x y : Float) → Number x → Number y → le x y ≡ leb (rank x) (rank y)
  pub equal : (x y : Float) → Number x → Number y → eq x y ≡ eqb (rank x) (rank y)
  pub greater : (a b : Float) → Number a → Number b → rank (max_of a b) ≡ max (rank a) (rank b)
  pub same : (x y : Float) → Number x → Number y → rank x ≡ rank y → (x ≡ y) ⊎ (Zero x × Zero y)

-- The key is a number of 32 bits that follows the order of numbers: the lower of two numbers has the lower key, and a
-- number whose key is not above another's is not above the other. Different floats have different keys, also the two
-- zeros.
pub record KeyFollowsOrder : Type 0 where
  pub less : (x y : Float) → Number x → Number y → rank x < rank y → key_of x < key_of y
  pub at_most : (x y : Float) → Number x → Number y → key_of x ≤ key_of y → rank x ≤ rank y
  pub unique : (x y : Float) → T (fits binary32 x) → T (fits binary32 y) → key_of x ≡ key_of y → x ≡ y
  pub narrow : (x : Float) → T (fits binary32 x) → key_of x < 2 ^ 32
