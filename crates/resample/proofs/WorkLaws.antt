-- The working sides lie between 1 and the full ones: a fraction of at most n rounds to at most n, so the coefficient is at most 1, side × coefficient at
-- most the side, and so is that rounded half away.
use Prim.Native.Nat.{ℕ, zero, suc, max, ◌+◌, ◌*◌, ◌/◌, ◌^◌, ◌≤◌, ◌<◌}
use mathlib.Core.Path.{◌≡◌, refl, sym, ap, subst}
use mathlib.Core.Bool.{Bool, true, false, true≢false, cond, ◌&&◌, ◌||◌}
use native.Mathlib.Nat.{le_of_mul-le-mul_right, mul-le-mul_right, mul-le-mul_left, div-lt_iff_lt-mul, mul-pos, le_trans, le_of_eq}
use native.Mathlib.Omega.{arith}
use lib.Dec.{T, leb, ltb, eqb, lit≤, le→leb, leb→le, eqb-suc-zero}
use lib.Ieee.{Float, nan, inf, fin, binary32, low, up, down, round, units, odd, of_int, mul, div, le, lt, eq, to_unsigned, in_float}
use lib.Ieee.Fits.{round_is, down_pos}
use lib.Ieee.Exact.{HasValue, odd_sign}
use lib.Ieee.Order.{round_mono, drop, kept}
use lib.Ieee.Back.{round_whole, unsigned_back}
use borrow.Author.Tests.{leb-false, le-leb, lt-leb}
use Rattle.floats.specs.Stand.{whole_by, round_of, whole}
use Rattle.floats.proofs.ValueLaws.{one_leb}
use Rattle.resample.specs.WorkSize.{scaled_side, work_size, Within, WorkWithin}
use Rattle.grid.specs.Sides.{InRange}
use Rattle.grid.specs.declared.Sides.{Sides}
use Rattle.grid.proofs.SidesLaws.{good_sides}

-- finite, not negative, and at most n
abbrev Below : Float → ℕ → Type 0
Below nan n = ⊥
Below (inf s) n = ⊥
Below (fin s m e) n = (s ≡ false) × (m * up e ≤ n * down e)

-- no NaN, with the sign clear
abbrev Plus : Float → Type 0
Plus nan = ⊥
Plus (inf s) = s ≡ false
Plus (fin s m e) = s ≡ false

plus_of_value : (x : Float) (a c : ℕ) → HasValue x false a c → Plus x
plus_of_value nan a c v = v
plus_of_value (inf s) a c v = absurd v
plus_of_value (fin s m e) a c v = v.0

plus_round : (a c : ℕ) → Plus (round binary32 false a c)
plus_round a c = subst Plus (sym (round_is binary32 false a c)) (of_units (kept 24 (a * 2 ^ 149) c) (drop 24 (a * 2 ^ 149) c))
  where
    go : (b : Bool) (q k : ℕ) → Plus (cond b (odd 25 false q k 149) (inf false))
    go true q k = plus_of_value (odd 25 false q k 149) (q * 2 ^ k) (2 ^ 149) (odd_sign 25 false q k 149)
    go false q k = refl

    of_units : (q k : ℕ) → Plus (units binary32 false q k)
    of_units q k = unfold units in go (ltb (q * 2 ^ k) (2 ^ (149 + 128))) q k

-- a ≤ b from the test that `le` makes of two numbers that are not negative
of_le : (a b : ℕ) → T (ltb a b || (eqb a b && true)) → a ≤ b
of_le a b t = leb→le a b (subst T (one_leb a b) t)

below_of_le : (x y : Float) (n : ℕ) → Plus x → HasValue y false n 1 → T (le x y) → Below x n
unfolding le lt eq
below_of_le nan y n p v t = p
below_of_le (inf true) y n p v t = absurd (true≢false p)
below_of_le (inf false) nan n p v t = v
below_of_le (inf false) (inf s) n p v t = v
below_of_le (inf false) (fin s m e) n p v t = t
below_of_le (fin true m e) y n p v t = absurd (true≢false p)
below_of_le (fin false m e) nan n p v t = absurd v
below_of_le (fin false m e) (inf s) n p v t = absurd v
below_of_le (fin false m e) (fin true k d) n p v t = absurd (true≢false v.0)
below_of_le (fin false m e) (fin false k d) n p v t =
    (refl, le_of_mul-le-mul_right (across (m * up e) (down d) (k * up d) (down e) n (of_le (m * up e * down d) (k * up d * down e) t) v.1) (down_pos d))
  where
    across : (a d b e n : ℕ) → a * d ≤ b * e → b * 1 ≡ n * d → a * d ≤ n * e * d
    across a d b e n h q = omega (arith, ap (λ (z : ℕ). z * e) q)

-- a fraction of at most n rounds to at most n
round_below : (a c n : ℕ) → 0 < c → n ≤ 2 ^ 24 → a ≤ n * c → Below (round binary32 false a c) n
round_below a c n C N h =
    below_of_le (round binary32 false a c) (round binary32 false n 1) n (plus_round a c) (round_whole binary32 false n N)
    (round_mono binary32 a c n 1 C (lit≤ tt) (omega arith))

div_below : (x y : Float) (a b n : ℕ) → HasValue x false a 1 → HasValue y false b 1 → 0 < b → n ≤ 2 ^ 24 → a ≤ n * b → Below (div binary32 x y) n
unfolding div
div_below nan y a b n v u B N h = absurd v
div_below (inf s) y a b n v u B N h = absurd v
div_below (fin s m e) nan a b n v u B N h = absurd u
div_below (fin s m e) (inf t) a b n v u B N h = absurd u
div_below (fin true m e) (fin t k d) a b n v u B N h = absurd (true≢false v.0)
div_below (fin false m e) (fin true k d) a b n v u B N h = absurd (true≢false u.0)
div_below (fin false m e) (fin false zero d) a b n v u B N h = absurd (none (up d) b (down d) B (down_pos d) u.1)
  where
    none : (p b d : ℕ) → 0 < b → 0 < d → 0 * p * 1 ≡ b * d → ⊥
    none p b d B D e = let h : 0 < b * d = mul-pos B D in omega arith
div_below (fin false m e) (fin false (suc k) d) a b n v u B N h =
    subst (λ (z : Bool). Below (cond z (cond (eqb m 0) nan (inf false)) (round binary32 false (m * up e * down d) (suc k * up d * down e))) n) (sym (eqb-suc-zero k))
    (round_below (m * up e * down d) (suc k * up d * down e) n (over (suc k * up d) b (down d) (down e) u.1 (mul-pos (mul-pos B (down_pos d)) (down_pos e))) N
    (across (m * up e) (down e) (suc k * up d) (down d) v.1 u.1))
  where
    over : (x b d e : ℕ) → x * 1 ≡ b * d → 0 < b * d * e → 0 < x * e
    over x b d e q p = omega (arith, ap (λ (z : ℕ). z * e) q)

    across : (x e y d : ℕ) → x * 1 ≡ a * e → y * 1 ≡ b * d → x * d ≤ n * (y * e)
    across x e y d p q =
        let l : a * (e * d) ≤ n * b * (e * d) = mul-le-mul_right (e * d) h in
        omega (arith, ap (λ (z : ℕ). z * d) p, ap (λ (z : ℕ). z * (n * e)) q)

mul_below : (x y : Float) (a n : ℕ) → HasValue x false a 1 → Below y 1 → a ≤ 2 ^ 24 → Below (mul binary32 x y) a
unfolding mul
mul_below nan y a n v u N = absurd v
mul_below (inf s) y a n v u N = absurd v
mul_below (fin s m e) nan a n v u N = absurd u
mul_below (fin s m e) (inf t) a n v u N = absurd u
mul_below (fin true m e) (fin t k d) a n v u N = absurd (true≢false v.0)
mul_below (fin false m e) (fin true k d) a n v u N = absurd (true≢false u.0)
mul_below (fin false m e) (fin false k d) a n v u N =
    round_below (m * up e * (k * up d)) (down e * down d) a (mul-pos (down_pos e) (down_pos d)) N (across (m * up e) (down e) (k * up d) (down d) v.1 u.1)
  where
    across : (x e y d : ℕ) → x * 1 ≡ a * e → y ≤ 1 * d → x * y ≤ a * (e * d)
    across x e y d p q =
        let l : a * e * y ≤ a * e * (1 * d) = mul-le-mul_left (a * e) q in
        omega (arith, ap (λ (z : ℕ). z * y) p)

-- rounded half away and cut to an index, at most n is at most n
rounded_below : (x : Float) (n : ℕ) → Below x n → n ≤ 2 ^ 24 → to_unsigned 64 (round_of x) ≤ n
unfolding whole_by in_float of_int
rounded_below nan n b N = absurd b
rounded_below (inf s) n b N = absurd b
rounded_below (fin true m e) n b N = absurd (true≢false b.0)
rounded_below (fin false m e) n b N =
    let q = (2 * (m * up e) + down e) / (2 * down e) in
    let l : q ≤ n = half (m * up e) (down e) (down_pos e) b.1 in
    le_trans (le_of_eq (unsigned_back binary32 64 q (le→leb q (2 ^ 24) (le_trans l N)) (omega arith)).1) l
  where
    half : (x d : ℕ) → 0 < d → x ≤ n * d → (2 * x + d) / (2 * d) ≤ n
    half x d D h =
        let p : 0 < 2 * d = omega arith in
        let q : 2 * x + d < (n + 1) * (2 * d) = omega arith in
        let l : (2 * x + d) / (2 * d) < n + 1 = (div-lt_iff_lt-mul p).1 q in
        omega arith

scaled_within : (coef : Float) (side : ℕ) → Below coef 1 → 1 ≤ side → side ≤ 4096 → (1 ≤ scaled_side coef side) × (scaled_side coef side ≤ side)
unfolding scaled_side of_int
scaled_within coef side b low high =
    let l : to_unsigned 64 (round_of (mul binary32 (whole side) coef)) ≤ side =
    rounded_below (mul binary32 (whole side) coef) side (mul_below (whole side) coef side 1 (round_whole binary32 false side (omega arith)) b (omega arith)) (omega arith) in
    omega arith

pub work_within : WorkWithin
unfolding work_size of_int
work_within w h res good = go (leb (max w h) res) (leb-false (max w h) res)
  where
    r : InRange w h
    r = good_sides w h good

    same : Within w h w h
    same = omega (arith, r)

    scaled : (coef : Float) → Below coef 1 → Within w h (scaled_side coef w) (scaled_side coef h)
    scaled coef b = omega (arith, r, scaled_within coef w b r.columns r.wide, scaled_within coef h b r.rows r.high)

    go : (t : Bool) → (t ≡ false → res < max w h) → let coef = div binary32 (whole res) (whole (max w h)) in
        let g : Sides = cond t (record { w = w; h = h }) (record { w = scaled_side coef w; h = scaled_side coef h }) in Within w h g.w g.h
    go true l = same
    go false l =
        let q : res < max w h = l refl in
        let m : max w h ≤ 4096 = omega (arith, r) in
        scaled (div binary32 (whole res) (whole (max w h)))
        (div_below (whole res) (whole (max w h)) res (max w h) 1 (round_whole binary32 false res (omega arith)) (round_whole binary32 false (max w h) (omega arith)) (omega arith) (lit≤ tt) (omega arith))

-- ---- the two ways of `work_sides`
pub work_full : (g : Sides) (res l : ℕ) → l ≡ max g.w g.h → l ≤ res → g ≡ work_size g.w g.h res
unfolding work_size
work_full g res l e h = rw (le-leb (max g.w g.h) res (omega arith))

pub work_scaled : (w h res l a b : ℕ) {coef : Float} → l ≡ max w h → res < l → coef ≡ div binary32 (whole res) (whole l) → a ≡ scaled_side coef w → b ≡ scaled_side coef h
    → record { w = a; h = b } ≡ work_size w h res
unfolding work_size
work_scaled w h res l a b e r k p q = rw (lt-leb (max w h) res (omega arith), ← e, ← k, p, q)
