-- A number is a sign and a size in units of 2 ^ -149, and these two fix its bits and the float itself.
use mathlib.Core.Path.{◌≡◌, refl, sym, ap, ap₂, ◌∙◌, subst}
use mathlib.Core.Bool.{Bool, true, false, ◌&&◌}
use Prim.Native.Nat.{ℕ, zero, suc, ◌-◌, ◌*◌, ◌/◌, ◌%◌, ◌^◌, ◌≤◌, ◌<◌}
use native.Mathlib.Nat.{le_of_lt, le_of_eq, le_trans, mul_right_comm, mul_comm, mul-one, zero-mul, div-one, mul-pos, mul-lt-mul_of_pos_right, le-mul_of_pos_right, div-lt_iff_lt-mul, mul_assoc, mul-div_cancel}
use lib.Dec.{T, ltb, leb, eqb, ltb→lt, leb→le, eqb→eq, lit≤}
use lib.IntN.{ℤ, pos, negsuc}
use lib.Pow.{pow_pos, pow-add}
use lib.Ieee.{Float, nan, inf, fin, binary32, up, down, size, fits, is_nan, to_bits}
use lib.Ieee.Digits.{back}
use lib.Ieee.Fits.{up_pos, down_pos, and_l, and_r}
use Rattle.floats.proofs.ValueLaws.{pow_back}
use Rattle.float_order.proofs.ValueLaws.{bits_of, bits_unique}
use Rattle.float_order.specs.Order.{Number, sign_of, units_of, signed, rank}

pub rank_is : (x : Float) → Number x → rank x ≡ signed (2 ^ 277) (sign_of x) (units_of x)
unfolding rank is_nan
rank_is nan p = absurd p.real
rank_is (inf s) p = refl
rank_is (fin s m e) p = refl

-- what fits has no digit below 2 ^ -149, and lies below 2 ^ 128
fine : (s : Bool) (m : ℕ) (e : ℤ) → T (fits binary32 (fin s m e)) → (down e ≤ 2 ^ 149) × (m * up e < 2 ^ 128 * down e)
unfolding fits
fine s zero e t =
    let h : down e ≤ 1 = le_trans (le-mul_of_pos_right (down e) (up_pos e)) (le_of_eq (mul_comm (down e) (up e) ∙ eqb→eq (up e * down e) 1 t)) in
    (le_trans h (lit≤ tt), subst (λ (z : ℕ). z < 2 ^ 128 * down e) (sym (zero-mul (up e))) (mul-pos (pow_pos 128) (down_pos e)))
fine s (suc m) e t =
    let A = eqb (suc m % 2) 1 && ltb (suc m) (2 ^ 24) in
    let B = leb (down e) (2 ^ 149) in
    let C = ltb (suc m * up e) (2 ^ 128 * down e) in
    (leb→le (down e) (2 ^ 149) (and_r A B (and_l (A && B) C t)), ltb→lt (suc m * up e) (2 ^ 128 * down e) (and_r (A && B) C t))

-- so its size is a whole number of units
whole_units : (l : ℕ) (e : ℤ) (u : ℕ) → down e ≤ 2 ^ l → u * 2 ^ l / down e * down e ≡ u * 2 ^ l
whole_units l (pos k) u h = mul-one (u * 2 ^ l / 1) ∙ div-one (u * 2 ^ l)
whole_units l (negsuc k) u h =
    let j = l - suc k in
    let r : u * 2 ^ j * 2 ^ suc k ≡ u * 2 ^ l =
    mul_assoc u (2 ^ j) (2 ^ suc k) ∙ ap (λ (x : ℕ). u * x) (sym (pow-add 2 j (suc k)) ∙ ap (λ (x : ℕ). 2 ^ x) (back l (suc k) (pow_back (suc k) l h))) in
    subst (λ (x : ℕ). x / 2 ^ suc k * 2 ^ suc k ≡ x) r (ap (λ (x : ℕ). x * 2 ^ suc k) (mul-div_cancel (u * 2 ^ j) (pow_pos (suc k))))

pub units_exact : (s : Bool) (m : ℕ) (e : ℤ) → T (fits binary32 (fin s m e)) → units_of (fin s m e) * down e ≡ m * up e * 2 ^ 149
units_exact s m e t = whole_units 149 e (m * up e) (fine s m e t).0

pub units_lt : (s : Bool) (m : ℕ) (e : ℤ) → T (fits binary32 (fin s m e)) → units_of (fin s m e) < 2 ^ 277
units_lt s m e t =
    (div-lt_iff_lt-mul (down_pos e)).1
    (subst (λ (z : ℕ). m * up e * 2 ^ 149 < z) (mul_right_comm (2 ^ 128) (down e) (2 ^ 149)) (mul-lt-mul_of_pos_right (fine s m e t).1 (pow_pos 149)))

pub units_le : (x : Float) → Number x → units_of x ≤ 2 ^ 277
unfolding is_nan
units_le nan p = absurd p.real
units_le (inf s) p = lit≤ tt
units_le (fin s m e) p = le_of_lt (units_lt s m e p.fit)

pub bits_is : (x : Float) → Number x → to_bits binary32 x ≡ bits_of (sign_of x) (units_of x)
unfolding to_bits size is_nan
bits_is nan p = absurd p.real
bits_is (inf true) p = refl
bits_is (inf false) p = refl
bits_is (fin s m e) p = refl

pub units_unique : (x y : Float) → Number x → Number y → sign_of x ≡ sign_of y → units_of x ≡ units_of y → x ≡ y
units_unique x y p q s u = bits_unique x y p.fit q.fit (bits_is x p ∙ ap₂ bits_of s u ∙ sym (bits_is y q))
