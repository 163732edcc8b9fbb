-- Whole numbers up to 2 ^ 24 as floats.
use mathlib.Core.Path.{◌≡◌, refl, sym, ap, ap₂, ◌∙◌}
use mathlib.Core.Bool.{true, false, true≢false}
use Prim.Native.Nat.{ℕ, ◌+◌, ◌*◌, ◌/◌, ◌^◌, ◌≤◌, ◌<◌}
use native.Mathlib.Nat.{mul-one, mul_right_comm, mul-div_cancel, lt_of_mul-lt-mul_right, mul-lt-mul_of_pos_right, eq_of_mul-eq-mul_right}
use native.Mathlib.Omega.{arith}
use lib.Dec.{T, ltb}
use lib.IntN.{pos}
use lib.Pow.{pow_pos}
use lib.Ieee.{Float, nan, inf, fin, binary32, up, down, add, lt, of_int, of_bits, fits}
use lib.Ieee.Exact.{HasValue}
use lib.Ieee.Fits.{down_pos, of_int-fits}
use lib.Ieee.Scale.{finite}
use Rattle.floats.proofs.ValueLaws.{same_lt, of_int_value, of_int_add}
use Rattle.floats.proofs.FiniteLaws.{value_finite}
use Rattle.float_order.specs.Order.{Number, rank}
use Rattle.floats.specs.Stand.{whole}
use Rattle.float_order.specs.Whole.{WholeNumbers}
use Rattle.float_order.proofs.OrderLaws.{lt_is}
use Rattle.float_order.proofs.RankLaws.{finite_number}

pub whole_fits : (n : ℕ) → T (fits binary32 (whole n))
whole_fits n = of_int-fits binary32 (pos n)

pub whole_value : (n : ℕ) → n ≤ 2 ^ 24 → HasValue (whole n) false n 1
whole_value = of_int_value

pub whole_finite : (n : ℕ) → n ≤ 2 ^ 24 → T (finite (whole n))
whole_finite n h = value_finite (whole n) false n 1 (whole_value n h)

pub whole_number : (n : ℕ) → n ≤ 2 ^ 24 → Number (whole n)
whole_number n h = finite_number (whole n) (whole_fits n) (whole_finite n h)

-- ---- n is n * 2 ^ 149 units

value_rank : (x : Float) (n : ℕ) → HasValue x false n 1 → rank x ≡ 2 ^ 277 + n * 2 ^ 149
unfolding rank
value_rank nan n v = absurd v
value_rank (inf t) n v = absurd v
value_rank (fin true m e) n v = absurd (true≢false v.0)
value_rank (fin false m e) n v =
    ap (λ (z : ℕ). 2 ^ 277 + z)
    (ap (λ (z : ℕ). z * 2 ^ 149 / down e) (sym (mul-one (m * up e)) ∙ v.1)
    ∙ ap (λ (z : ℕ). z / down e) (mul_right_comm n (down e) (2 ^ 149))
    ∙ mul-div_cancel (n * 2 ^ 149) (down_pos e))

pub whole_rank : (n : ℕ) → n ≤ 2 ^ 24 → rank (whole n) ≡ 2 ^ 277 + n * 2 ^ 149
whole_rank n h = value_rank (whole n) n (whole_value n h)

placed_lt : (B L a b : ℕ) → 0 < L → ltb (B + a * L) (B + b * L) ≡ ltb a b
placed_lt B L a b l =
    same_lt (B + a * L) (B + b * L) a b (λ h. lt_of_mul-lt-mul_right L (omega arith)) (λ h. omega (arith, mul-lt-mul_of_pos_right h l))

pub whole_lt : (a b : ℕ) → a ≤ 2 ^ 24 → b ≤ 2 ^ 24 → lt (whole a) (whole b) ≡ ltb a b
whole_lt a b p q =
    lt_is (whole a) (whole b) (whole_number a p) (whole_number b q) ∙ ap₂ ltb (whole_rank a p) (whole_rank b q) ∙ placed_lt (2 ^ 277) (2 ^ 149) a b (pow_pos 149)

placed_same : (B L a b : ℕ) → 0 < L → B + a * L ≡ B + b * L → a ≡ b
placed_same B L a b l h = eq_of_mul-eq-mul_right L l a b (omega arith)

pub whole_inj : (a b : ℕ) → a ≤ 2 ^ 24 → b ≤ 2 ^ 24 → whole a ≡ whole b → a ≡ b
whole_inj a b p q h = placed_same (2 ^ 277) (2 ^ 149) a b (pow_pos 149) (sym (whole_rank a p) ∙ ap rank h ∙ whole_rank b q)

-- ---- sums

pub whole_sum : (a b : ℕ) → a + b ≤ 2 ^ 24 → add binary32 (whole a) (whole b) ≡ whole (a + b)
whole_sum a b h = of_int_add a b (omega arith) (omega arith)

pub whole_zero : whole 0 ≡ of_bits binary32 0
unfolding of_int of_bits
whole_zero = refl

pub whole_one : whole 1 ≡ of_bits binary32 0x3f80_0000
unfolding of_int of_bits
whole_one = refl

pub whole_numbers : WholeNumbers
whole_numbers = record { sum = λ a b h. whole_sum a b (omega arith); unique = whole_inj; less = whole_lt; none = whole_zero; one = whole_one }
