-- Which float goes which way in `root_of`, and the root of each positive one by its bits.
use Rattle.std.specs.declared.result.Result.TheVariants.{Ok, Err}
use mathlib.Core.Path.{◌≡◌, refl, sym, ap, ◌∙◌, subst}
use mathlib.Core.Bool.{Bool, true, false, not, cond, ◌&&◌, ◌||◌, beq, true≢false, false≢true}
use Prim.Native.Nat.{ℕ, zero, suc, ◌+◌, ◌-◌, ◌*◌, ◌/◌, ◌%◌, ◌^◌, ◌≤◌, ◌<◌}
use native.Mathlib.Nat.{zero-mul, one-mul, mul-one, mul-pos, mul_right_comm, mul-le-mul_right, mul-lt-mul_of_pos_right, le_trans, lt_irrefl, zero-lt-suc, div-one, le-div_iff_mul-le, div-lt_iff_lt-mul}
use native.Mathlib.Omega.{arith}
use borrow.Author.Tests.{ltb-true, ltb-false, lt-ltb}
use lib.IntN.{ℤ, pos}
use lib.Dec.{T, ltb, leb, eqb, ltb→lt, leb→le, eqb→eq}
use lib.Pow.{pow_pos}
use lib.Count.{count_leading_zeros}
use lib.Ieee.{Float, nan, inf, fin, binary32, up, down, size, level, lt, le, eq, fits, is_nan, of_bits, to_bits}
use lib.Ieee.Digits.{size-le}
use lib.Ieee.Fits.{and_l, and_r, up_pos, down_pos, kept-lt}
use lib.Ieee.Bits.{of_bits-to_bits}
use lib.Ieee.Scale.{finite}
use Rattle.answers.specs.declared.Refusal.{Refusal}
use Rattle.answers.specs.Outcome.{Outcome, gives, refused}
use Rattle.square_root.specs.Root.{root_of, root_answer}
use Rattle.square_root.specs.Rooted.{NearestRoot, Rooted}
use Rattle.square_root.specs.Inner.{bits_of}
use Rattle.square_root.proofs.BitsLaws.{normal_value, low_value, raised}
use Rattle.square_root.proofs.RootLaws.{Found, found}

abbrev nought : Float
nought = fin false 0 (pos 0)

-- both sides of a comparison of 0 with m * 2 ^ e
zero_times : (d : ℕ) → 0 * 1 * d ≡ 0
zero_times d = zero-mul d

mag_zero : (e : ℤ) → 0 * up e * 1 ≡ 0
mag_zero e = mul-one (0 * up e) ∙ zero-mul (up e)

mag_pos : (m : ℕ) (e : ℤ) → 0 < suc m * up e * 1
mag_pos m e = subst (λ (z : ℕ). 0 < z) (sym (mul-one (suc m * up e))) (mul-pos (zero-lt-suc m) (up_pos e))

pub no_nan_above : (x : Float) → lt nought x ≡ true → T (not (is_nan x))
unfolding lt is_nan
no_nan_above nan h = absurd (false≢true h)
no_nan_above (inf s) h = tt
no_nan_above (fin s m e) h = tt

-- ---- the bits of a positive finite float

finite_bits : (m : ℕ) (e : ℤ) → T (fits binary32 (fin false (suc m) e)) → (0 < to_bits binary32 (fin false (suc m) e)) × (to_bits binary32 (fin false (suc m) e) < 255 * 2 ^ 23)
unfolding fits to_bits
finite_bits m e t =
    let A = eqb (suc m % 2) 1 in
    let B = ltb (suc m) (2 ^ 24) in
    let C = leb (down e) (2 ^ 149) in
    let D = ltb (suc m * up e) (2 ^ 128 * down e) in
    let c : down e ≤ 2 ^ 149 = leb→le (down e) (2 ^ 149) (and_r (A && B) C (and_l (A && B && C) D t)) in
    let d : suc m * up e < 2 ^ 128 * down e = ltb→lt (suc m * up e) (2 ^ 128 * down e) (and_r (A && B && C) D t) in
    let n = suc m * up e * 2 ^ 149 / down e in
    let some : 1 ≤ n =
    (le-div_iff_mul-le (down_pos e)).1 (subst (λ (z : ℕ). z ≤ suc m * up e * 2 ^ 149) (sym (one-mul (down e)))
    (le_trans c (subst (λ (z : ℕ). z ≤ suc m * up e * 2 ^ 149) (one-mul (2 ^ 149)) (mul-le-mul_right (2 ^ 149) (mul-pos (zero-lt-suc m) (up_pos e)))))) in
    let few : n < 2 ^ 277 = (div-lt_iff_lt-mul (down_pos e)).1 (subst (λ (z : ℕ). suc m * up e * 2 ^ 149 < z) (mul_right_comm (2 ^ 128) (down e) (2 ^ 149)) (mul-lt-mul_of_pos_right d (pow_pos 149))) in
    (least n (size n - 24) some, most (size n) (n / 2 ^ (size n - 24)) (size-le n 277 few) (kept-lt 24 n))
  where
    least : (n k : ℕ) → 1 ≤ n → 0 < 0 + k * 2 ^ 23 + n / 2 ^ k
    least n zero h = subst (λ (z : ℕ). 0 < 0 + 0 * 2 ^ 23 + z) (sym (div-one n)) (omega arith)
    least n (suc k) h = omega arith

    most : (z r : ℕ) → z ≤ 277 → r < 2 ^ 24 → 0 + (z - 24) * 2 ^ 23 + r < 255 * 2 ^ 23
    most z r a b = omega arith

pub positive_bits : (x : Float) → T (fits binary32 x) → lt nought x ≡ true → lt x (inf false) ≡ true → (0 < to_bits binary32 x) × (to_bits binary32 x < 255 * 2 ^ 23)
unfolding lt
positive_bits nan t h k = absurd (false≢true h)
positive_bits (inf true) t h k = absurd (false≢true h)
positive_bits (inf false) t h k = absurd (false≢true k)
positive_bits (fin true m e) t h k = absurd (false≢true h)
positive_bits (fin false zero e) t h k = absurd (lt_irrefl 0 (subst (λ (z : ℕ). 0 < z) (mag_zero e) (subst (λ (z : ℕ). z < 0 * up e * 1) (zero_times (down e)) (ltb-true _ _ h))))
positive_bits (fin false (suc m) e) t h k = finite_bits m e t

-- ---- its root

pub low_root : (b : ℕ) → 0 < b → b < 2 ^ 23 → Found (of_bits binary32 b) (bits_of (b * 2 ^ (count_leading_zeros 32 b - 8)) (65 - (count_leading_zeros 32 b - 8)))
low_root b p l =
    let r = (raised b p l).1 in
    let h = count_leading_zeros 32 b - 8 in
    found (of_bits binary32 b) (b * 2 ^ h) (65 - h) (low_value b h l (wide h r.few)) r.low r.high (short h)
  where
    wide : (h : ℕ) → h ≤ 23 → h ≤ 65
    wide h g = omega arith

    short : (h : ℕ) → 65 - h ≤ 318
    short h = omega arith

pub normal_root : (b : ℕ) → 2 ^ 23 ≤ b → b < 255 * 2 ^ 23 → Found (of_bits binary32 b) (bits_of (2 ^ 23 + b % 2 ^ 23) (b / 2 ^ 23 + 64))
normal_root b l h = found (of_bits binary32 b) (2 ^ 23 + b % 2 ^ 23) (b / 2 ^ 23 + 64) (normal_value b l h) (omega arith) (omega arith) (omega arith)

-- the bracket of every positive finite float
pub bracketed : (x : Float) → T (fits binary32 x) → lt nought x ≡ true → lt x (inf false) ≡ true → NearestRoot x (root_of x)
bracketed x t h k =
    let b = to_bits binary32 x in
    let r = positive_bits x t h k in
    subst (λ (z : Float). NearestRoot z (root_of z)) (of_bits-to_bits binary32 x t) (go b r.0 r.1 (ltb b (2 ^ 23)) refl)
  where
    go : (b : ℕ) → 0 < b → b < 255 * 2 ^ 23 → (s : Bool) → ltb b (2 ^ 23) ≡ s → NearestRoot (of_bits binary32 b) (root_of (of_bits binary32 b))
    go b p l true e = (low_root b p (ltb-true b (2 ^ 23) e)).bracket
    go b p l false e = (normal_root b (ltb-false b (2 ^ 23) e) l).bracket

-- ---- the other floats

pub at_infinity : (x : Float) → lt nought x ≡ true → lt x (inf false) ≡ false → x ≡ root_of x
unfolding lt root_of
at_infinity nan h k = absurd (false≢true h)
at_infinity (inf true) h k = absurd (false≢true h)
at_infinity (inf false) h k = refl
at_infinity (fin s m e) h k = absurd (true≢false k)

pub at_zero : (x : Float) → eq x nought ≡ true → x ≡ root_of x
unfolding eq root_of
at_zero nan h = absurd (false≢true h)
at_zero (inf s) h = absurd (false≢true h)
at_zero (fin s zero e) h = refl
at_zero (fin s (suc m) e) h =
    let same : suc m * up e * 1 ≡ 0 * 1 * down e = eqb→eq _ _ (and_l (eqb (suc m * up e * 1) (0 * 1 * down e)) (beq s false || eqb (suc m * up e * 1) 0) (subst T (sym h) tt)) in
    absurd (lt_irrefl 0 (subst (λ (z : ℕ). 0 < z) (same ∙ zero_times (down e)) (mag_pos m e)))

zeros_equal : (s : Bool) (a b : ℕ) → a ≡ 0 → b ≡ 0 → level s a false b ≡ true
zeros_equal s a b p q = ap (λ (z : ℕ). level s z false b) p ∙ ap (λ (z : ℕ). level s 0 false z) q ∙ go s
  where
    go : (s : Bool) → level s 0 false 0 ≡ true
    go true = refl
    go false = refl

pub at_none : (x : Float) → lt nought x ≡ false → eq x nought ≡ false → nan ≡ root_of x
unfolding lt eq root_of
at_none nan h k = refl
at_none (inf true) h k = refl
at_none (inf false) h k = absurd (true≢false h)
at_none (fin s zero e) h k = absurd (true≢false (sym (zeros_equal s (0 * up e * 1) (0 * 1 * down e) (mag_zero e) (zero_times (down e))) ∙ k))
at_none (fin true (suc m) e) h k = refl
at_none (fin false (suc m) e) h k = absurd (true≢false (sym (lt-ltb _ _ (subst (λ (z : ℕ). z < suc m * up e * 1) (sym (zero_times (down e))) (mag_pos m e))) ∙ h))

-- ---- the answer of the call `root`

below_infinity : (x : Float) → finite x ≡ true → lt x (inf false) ≡ true
unfolding lt
below_infinity nan h = absurd (false≢true h)
below_infinity (inf s) h = absurd (false≢true h)
below_infinity (fin s m e) h = refl

answered : (x : Float) (s : Bool) → (finite x && le nought x) ≡ s → cond s (gives (root_of x)) (refused 4) ≡ root_answer x
unfolding root_answer
answered x s e = ap (λ (t : Bool). cond t (gives (root_of x)) (refused 4)) (sym e)

pub given : (x r : Float) → T (fits binary32 x) → finite x ≡ true → le nought x ≡ true → r ≡ root_of x → Rooted x (Ok r)
given x r t f g e = record {
  answer = ap gives e ∙ answered x true (ap (λ (s : Bool). s && le nought x) f ∙ g);
  bracket = λ v q h. let same : root_of x ≡ v = cc in subst (NearestRoot x) same (bracketed x t h (below_infinity x f));
}

pub refuses : (x : Float) → (finite x && le nought x) ≡ false → Rooted x (Err Refusal.Setting)
refuses x e = record {
  answer = answered x false e;
  bracket = λ v q h. absurd (never v q);
}
  where
    never : (v : Float) → ◌≡◌ {A = Outcome Float} (refused 4) (gives v) → ⊥
    never v q = let z : ◌≡◌ {A = ℕ} 0 1 = cc in omega arith
