-- From the bits of a positive float to its value, and from a value of 24 digits to its bits.
use mathlib.Core.Path.{◌≡◌, refl, sym, ap, ◌∙◌, subst}
use mathlib.Core.Bool.{Bool, false, not, cond}
use Prim.Native.Nat.{ℕ, suc, ◌+◌, ◌-◌, ◌*◌, ◌/◌, ◌%◌, ◌^◌, ◌≤◌, ◌<◌}
use native.Mathlib.Nat.{mul_right_comm, mul-one, mul-le-mul_right, mod-eq_of_lt, mul-div_cancel, eq_of_mul-eq-mul_right, lt_of_lt_of_le, lt_of_not-le, not-le_of_lt, zero-add, suc-add}
use native.Mathlib.Omega.{arith}
use borrow.Author.Tests.{lt-leb, ne_eqb}
use lib.Dec.{T, eqb}
use lib.Pow.{pow-add, pow_pos, pow_mono, shl_lt}
use lib.Count.{count_leading_zeros, leading_top}
use lib.Ieee.{Float, nan, inf, fin, binary32, up, down, size, odd, of_fields, nan_bits, of_bits, to_bits}
use lib.Ieee.Digits.{size-lt, size-le}
use lib.Ieee.Fits.{down_pos}
use lib.Ieee.Exact.{HasValue, odd_sign}
use Rattle.floats.proofs.BitsLaws.{no_nan_pattern}
use Rattle.floats.proofs.ValueLaws.{gather}

-- ---- powers and fractions

-- two products with the same power of two in them
pub pow_same : (s a b c d : ℕ) → a + b ≡ c + d → s * 2 ^ a * 2 ^ b ≡ s * 2 ^ c * 2 ^ d
pow_same s a b c d e = gather s a b ∙ ap (λ (z : ℕ). s * 2 ^ z) e ∙ sym (gather s c d)

-- a value as another fraction of the same size
pub rescale : (x : Float) (w l a c : ℕ) → 0 < l → a * l ≡ w * c → HasValue x false w l → HasValue x false a c
rescale nan w l a c p h v = v
rescale (inf t) w l a c p h v = v
rescale (fin t m e) w l a c p h v = (
  v.0,
  eq_of_mul-eq-mul_right l p (m * up e * c) (a * down e)
      (mul_right_comm (m * up e) c l
      ∙ ap (λ (z : ℕ). z * c) v.1
      ∙ mul_right_comm w (down e) c
      ∙ ap (λ (z : ℕ). z * down e) (sym h)
      ∙ mul_right_comm a l (down e)),
)

-- ---- reading

fields : (b : ℕ) → b < 2 ^ 31 → of_bits binary32 b ≡ of_fields binary32 false (b / 2 ^ 23) (b % 2 ^ 23)
unfolding of_bits
fields b h =
    ap (λ (s : Bool). of_fields binary32 s (b % 2 ^ 31 / 2 ^ 23) (b % 2 ^ 23)) (lt-leb (2 ^ 31) b h)
    ∙ ap (λ (z : ℕ). of_fields binary32 false (z / 2 ^ 23) (b % 2 ^ 23)) (mod-eq_of_lt h)

at_field : (e t : ℕ) → suc e < 255 → of_fields binary32 false (suc e) t ≡ odd 24 false (2 ^ 23 + t) e 149
unfolding of_fields
at_field e t h = ap (λ (s : Bool). cond s (cond (eqb t 0) (inf false) nan) (odd 24 false (2 ^ 23 + t) e 149)) (ne_eqb (suc e) 255 (λ (g : suc e ≡ 255). no g))
  where
    no : suc e ≡ 255 → ⊥
    no g = omega arith

at_none : (t : ℕ) → of_fields binary32 false 0 t ≡ odd 24 false t 0 149
unfolding of_fields
at_none t = refl

-- a float whose leading digit is not stored: 2 ^ 23 + t in units of 2 ^ (e - 150)
pub normal_value : (b : ℕ) → 2 ^ 23 ≤ b → b < 255 * 2 ^ 23 → HasValue (of_bits binary32 b) false ((2 ^ 23 + b % 2 ^ 23) * 2 ^ (b / 2 ^ 23 + 64)) (2 ^ 214)
normal_value b l h =
    let e = b / 2 ^ 23 - 1 in
    let s = 2 ^ 23 + b % 2 ^ 23 in
    let i : b / 2 ^ 23 ≡ suc e = omega arith in
    let x : of_bits binary32 b ≡ odd 24 false s e 149 = fields b (omega arith) ∙ ap (λ (z : ℕ). of_fields binary32 false z (b % 2 ^ 23)) i ∙ at_field e (b % 2 ^ 23) (omega arith) in
    subst (λ (z : Float). HasValue z false (s * 2 ^ (b / 2 ^ 23 + 64)) (2 ^ 214)) (sym x)
    (rescale (odd 24 false s e 149) (s * 2 ^ e) (2 ^ 149) (s * 2 ^ (b / 2 ^ 23 + 64)) (2 ^ 214) (pow_pos 149) (pow_same s (b / 2 ^ 23 + 64) 149 e 214 (omega arith))
    (odd_sign 24 false s e 149))

-- a smaller one, b units of 2 ^ -149, moved up by h digits
pub low_value : (b h : ℕ) → b < 2 ^ 23 → h ≤ 65 → HasValue (of_bits binary32 b) false (b * 2 ^ h * 2 ^ (65 - h)) (2 ^ 214)
low_value b h l k =
    let t : b % 2 ^ 23 ≡ b = mod-eq_of_lt l in
    let x : of_bits binary32 b ≡ odd 24 false b 0 149 = fields b (omega arith) ∙ ap (λ (z : ℕ). of_fields binary32 false z (b % 2 ^ 23)) (zero_field b l) ∙ at_none (b % 2 ^ 23) ∙ ap (λ (z : ℕ). odd 24 false z 0 149) t in
    subst (λ (z : Float). HasValue z false (b * 2 ^ h * 2 ^ (65 - h)) (2 ^ 214)) (sym x)
    (rescale (odd 24 false b 0 149) (b * 2 ^ 0) (2 ^ 149) (b * 2 ^ h * 2 ^ (65 - h)) (2 ^ 214) (pow_pos 149)
    (ap (λ (z : ℕ). z * 2 ^ 149) (pow_same b h (65 - h) 0 65 (omega arith)) ∙ pow_same (b * 2 ^ 0) 65 149 0 214 refl ∙ ap (λ (z : ℕ). z * 2 ^ 214) (mul-one (b * 2 ^ 0)))
    (odd_sign 24 false b 0 149))
  where
    zero_field : (z : ℕ) → z < 2 ^ 23 → z / 2 ^ 23 ≡ 0
    zero_field z g = omega arith

-- such a b moved up until it has 24 digits
pub record Raised (b h : ℕ) : Type 0 where
  pub few : h ≤ 23
  pub low : 2 ^ 23 ≤ b * 2 ^ h
  pub high : b * 2 ^ h < 2 ^ 24

pub raised : (b : ℕ) → 0 < b → b < 2 ^ 23 → (8 ≤ count_leading_zeros 32 b) × Raised b (count_leading_zeros 32 b - 8)
raised b p l =
    let t = leading_top 32 b p (lt_of_lt_of_le l (pow_mono {i = 23} {j = 32} (omega arith))) in
    let j = t.0 in
    let z = count_leading_zeros 32 b in
    let small : j < 23 = place j t.2 in
    let e : j + (z - 8) ≡ 23 = omega (arith, t.1) in (
      omega (arith, t.1),
      record {
        few = omega (arith, t.1);
        low = subst (λ (w : ℕ). w ≤ b * 2 ^ (z - 8)) (sym (pow-add 2 j (z - 8)) ∙ ap (λ (w : ℕ). 2 ^ w) e) (mul-le-mul_right (2 ^ (z - 8)) t.2);
        high = subst (λ (w : ℕ). b * 2 ^ (z - 8) < 2 ^ w) (ap suc e) (subst (λ (w : ℕ). b * 2 ^ (z - 8) < 2 ^ w) (suc-add j (z - 8)) (shl_lt (suc j) (z - 8) t.3));
      },
    )
  where
    place : (j : ℕ) → 2 ^ j ≤ b → j < 23
    place j g = lt_of_not-le (λ (k : 23 ≤ j). not-le_of_lt (lt_of_lt_of_le l (pow_mono k)) g)

-- ---- writing

bits_of : (v : Float) (a : ℕ) → HasValue v false a (2 ^ 149) → to_bits binary32 v ≡ (size a - 24) * 2 ^ 23 + a / 2 ^ (size a - 24)
unfolding to_bits
bits_of nan a h = absurd h
bits_of (inf s) a h = absurd h
bits_of (fin s m e) a h =
    ap (λ (t : Bool). cond t (2 ^ 31) 0 + K (m * up e * 2 ^ 149 / down e) * 2 ^ 23 + m * up e * 2 ^ 149 / down e / 2 ^ K (m * up e * 2 ^ 149 / down e)) h.0
    ∙ ap (λ (n : ℕ). 0 + K n * 2 ^ 23 + n / 2 ^ K n) (ap (λ (n : ℕ). n / down e) h.1 ∙ mul-div_cancel a (down_pos e))
    ∙ ap (λ (n : ℕ). n + a / 2 ^ K a) (zero-add (K a * 2 ^ 23))
  where
    K : ℕ → ℕ
    K n = size n - 24

pub size_above : {k n : ℕ} → 2 ^ k ≤ n → k < size n
size_above {k} {n} h = lt_of_not-le (λ (g : size n ≤ k). not-le_of_lt (lt_of_lt_of_le (size-lt n) (pow_mono g)) h)

pub bits_at : (v : Float) (q k : ℕ) → HasValue v false (q * 2 ^ k) (2 ^ 149) → 2 ^ 23 ≤ q → q < 2 ^ 24 → to_bits binary32 v ≡ k * 2 ^ 23 + q
bits_at v q k h l g =
    bits_of v (q * 2 ^ k) h ∙ ap (λ (z : ℕ). z * 2 ^ 23 + q * 2 ^ k / 2 ^ z) K ∙ ap (λ (z : ℕ). k * 2 ^ 23 + z) (mul-div_cancel q (pow_pos k))
  where
    drop : (z : ℕ) → 23 + k < z → z ≤ 24 + k → z - 24 ≡ k
    drop z a b = omega arith

    K : size (q * 2 ^ k) - 24 ≡ k
    K = drop (size (q * 2 ^ k)) (size_above {k = 23 + k} (subst (λ (w : ℕ). w ≤ q * 2 ^ k) (sym (pow-add 2 23 k)) (mul-le-mul_right (2 ^ k) l))) (size-le (q * 2 ^ k) (24 + k) (shl_lt 24 k g))

-- bits below those of the infinity are no NaN's
pub no_nan : (b : ℕ) → b < 255 * 2 ^ 23 → T (not (nan_bits binary32 b))
no_nan b h = no_nan_pattern b (omega arith)
