-- The definition's root of a positive float: its value, its bits and its bracket.
use mathlib.Core.Path.{◌≡◌, refl, sym, ap, ap₂, ◌∙◌, subst}
use mathlib.Core.Bool.{true, false, true≢false}
use mathlib.Core.Logic.{◌⊎◌, inl, inr}
use Prim.Native.Nat.{ℕ, zero, suc, ◌+◌, ◌-◌, ◌*◌, ◌/◌, ◌%◌, ◌^◌, ◌≤◌, ◌<◌}
use native.Mathlib.Nat.{sub-le, lt_of_le_of_lt, mul_assoc, mul-le-mul, mul-le-mul_left, mul-le-mul_right, mul-lt-mul_of_pos_right, mul-div_cancel, mul-pos, zero-mul, pow-suc, one-le-pow, eq-or-lt_of_le, lt_of_lt_of_le, lt_irrefl}
use native.Mathlib.Omega.{arith}
use lib.Dec.{lit<}
use lib.Pow.{pow-add, pow_pos, pow_mono, shl_lt}
use lib.Ieee.{Float, nan, inf, fin, binary32, up, down, size, round, of_bits}
use lib.Ieee.Digits.{size-le}
use lib.Ieee.Fits.{round-fits, down_pos}
use lib.Ieee.Bits.{of_bits-to_bits}
use lib.Ieee.Exact.{HasValue, round_exact}
use Rattle.floats.proofs.ValueLaws.{gather}
use Rattle.square_root.specs.Root.{root_of, nearest_root}
use Rattle.square_root.specs.Rooted.{NearestRoot}
use Rattle.square_root.specs.Inner.{scaled_to, bits_of}
use Rattle.square_root.proofs.WholeLaws.{NearSquare, nearest_near, near_low, near_high}
use Rattle.square_root.proofs.BitsLaws.{pow_same, rescale, size_above, bits_at}

-- ---- q * 2 ^ (k + 1) in units of 2 ^ -150, rounded: nothing is lost, and the bits are a sum

record Written (q k : ℕ) (v : Float) : Type 0 where
  value : HasValue v false (q * 2 ^ suc k) (2 ^ 150)
  bits : of_bits binary32 (k * 2 ^ 23 + q) ≡ v

unit : ℕ → ℕ → Float
unit q k = round binary32 false (q * 2 ^ suc k) (2 ^ 150)

written_below : (q k : ℕ) → 2 ^ 23 ≤ q → q < 2 ^ 24 → k ≤ 200 → Written q k (unit q k)
unfolding unit
written_below q k l h s =
    let v = unit q k in
    let val : HasValue v false (q * 2 ^ suc k) (2 ^ 150) =
    round_exact binary32 false (q * 2 ^ suc k) (2 ^ 150) q k (pow_pos 150) h (lt_of_lt_of_le (shl_lt 24 k h) (pow_mono {i = 24 + k} {j = 277} (omega arith))) (pow_same q (suc k) 149 k 150 (omega arith)) in
    record {
      value = val;
      bits =
          ap (of_bits binary32) (sym (bits_at v q k (rescale v (q * 2 ^ suc k) (2 ^ 150) (q * 2 ^ k) (2 ^ 149) (pow_pos 150) (pow_same q k 150 (suc k) 149 (omega arith)) val) l h))
          ∙ of_bits-to_bits binary32 v (round-fits binary32 false (q * 2 ^ suc k) (2 ^ 150));
    }

written : (q k : ℕ) → 2 ^ 23 ≤ q → q ≤ 2 ^ 24 → k < 200 → Written q k (unit q k)
unfolding unit
written q k l h s = go (eq-or-lt_of_le h)
  where
    -- 2 ^ 24 is written with 24 digits too, one place higher
    twice : 2 ^ 23 * 2 ^ suc (suc k) ≡ 2 ^ 24 * 2 ^ suc k
    twice = sym (pow-add 2 23 (suc (suc k))) ∙ ap (λ (z : ℕ). 2 ^ z) (same k) ∙ pow-add 2 24 (suc k)
      where
        same : (z : ℕ) → 23 + suc (suc z) ≡ 24 + suc z
        same z = omega arith

    top : Written (2 ^ 24) k (unit (2 ^ 24) k)
    top =
        let w = written_below (2 ^ 23) (suc k) (omega arith) (omega arith) s in
        let e : unit (2 ^ 23) (suc k) ≡ unit (2 ^ 24) k = ap (λ (z : ℕ). round binary32 false z (2 ^ 150)) twice in
        record {
          value = subst (λ (z : ℕ). HasValue (unit (2 ^ 24) k) false z (2 ^ 150)) twice (subst (λ (z : Float). HasValue z false (2 ^ 23 * 2 ^ suc (suc k)) (2 ^ 150)) e w.value);
          bits = ap (of_bits binary32) (carry k) ∙ w.bits ∙ e;
        }
      where
        carry : (z : ℕ) → z * 2 ^ 23 + 2 ^ 24 ≡ suc z * 2 ^ 23 + 2 ^ 23
        carry z = omega arith

    go : (q ≡ 2 ^ 24) ⊎ (q < 2 ^ 24) → Written q k (unit q k)
    go (inl e) = subst (λ (z : ℕ). Written z k (unit z k)) (sym e) top
    go (inr g) = written_below q k l g (omega arith)

-- ---- the definition at x = n * 4 ^ f / 4 ^ 150

pub four_pow : (f : ℕ) → 4 ^ f ≡ 2 ^ (2 * f)
four_pow zero = refl
four_pow (suc f) = pow-suc 4 f ∙ ap (λ (z : ℕ). z * 4) (four_pow f) ∙ sym (pow-add 2 (2 * f) 2) ∙ ap (λ (z : ℕ). 2 ^ z) (two_more f)
  where
    two_more : (z : ℕ) → 2 * z + 2 ≡ 2 * suc z
    two_more z = omega arith

place_is : (n f : ℕ) → 2 ^ 46 ≤ n → n < 2 ^ 48 → (size (n * 4 ^ f) - 47) / 2 ≡ f
place_is n f l h = subst (λ (z : ℕ). (size (n * z) - 47) / 2 ≡ f) (sym (four_pow f)) (half (size (n * 2 ^ (2 * f))) (size_above lo) (size-le (n * 2 ^ (2 * f)) (48 + 2 * f) (shl_lt 48 (2 * f) h)))
  where
    lo : 2 ^ (46 + 2 * f) ≤ n * 2 ^ (2 * f)
    lo = subst (λ (z : ℕ). z ≤ n * 2 ^ (2 * f)) (sym (pow-add 2 46 (2 * f))) (mul-le-mul_right (2 ^ (2 * f)) l)

    half : (z : ℕ) → 46 + 2 * f < z → z ≤ 48 + 2 * f → (z - 47) / 2 ≡ f
    half z a b = omega arith

four_pos : (f : ℕ) → 0 < 4 ^ f
four_pos f = one-le-pow f 4 (lit< tt)

above_zero : (n : ℕ) → 2 ^ 46 ≤ n → 0 < n
above_zero n l = omega arith

root_is : (x : Float) (n f : ℕ) → HasValue x false (n * 4 ^ f) (2 ^ 300) → 2 ^ 46 ≤ n → n < 2 ^ 48 → root_of x ≡ round binary32 false (nearest_root n * 2 ^ f) (2 ^ 150)
unfolding root_of
root_is nan n f v l h = absurd v
root_is (inf s) n f v l h = absurd v
root_is (fin s zero e) n f v l h = absurd (lt_irrefl 0 (subst (λ (z : ℕ). 0 < z) (sym v.1 ∙ ap (λ (z : ℕ). z * 2 ^ 300) (zero-mul (up e)) ∙ zero-mul (2 ^ 300)) (mul-pos (mul-pos (above_zero n l) (four_pos f)) (down_pos e))))
root_is (fin true (suc m) e) n f v l h = absurd (true≢false v.0)
root_is (fin false (suc m) e) n f v l h =
    let at : ℕ → ℕ → Float = λ X j. round binary32 false (nearest_root (X / 4 ^ j) * 2 ^ j) (2 ^ 150) in
    ap (λ (X : ℕ). at X ((size X - 47) / 2)) (ap (λ (z : ℕ). z / down e) v.1 ∙ mul-div_cancel (n * 4 ^ f) (down_pos e))
    ∙ ap (at (n * 4 ^ f)) (place_is n f l h)
    ∙ ap (λ (z : ℕ). round binary32 false (nearest_root z * 2 ^ f) (2 ^ 150)) (mul-div_cancel n (four_pos f))

-- ---- both together: the root of x = sig * 2 ^ p / 2 ^ 214

pub record Found (x : Float) (b : ℕ) : Type 0 where
  pub small : b < 255 * 2 ^ 23
  pub bits : of_bits binary32 b ≡ root_of x
  pub bracket : NearestRoot x (root_of x)

at_scale : (x : Float) (n k : ℕ) → HasValue x false (n * 4 ^ suc k) (2 ^ 300) → 2 ^ 46 ≤ n → n < 2 ^ 48 → k < 200 → Found x (k * 2 ^ 23 + nearest_root n)
unfolding unit
at_scale x n k v l h s =
    let q = nearest_root n in
    let P = 4 ^ suc k in
    let near : NearSquare n q = nearest_near n (above_zero n l) h in
    let lo : 2 ^ 23 ≤ q = near_low n q near l in
    let hi : q ≤ 2 ^ 24 = near_high n q near h in
    let w = written q k lo hi s in
    let e : unit q k ≡ root_of x = sym (root_is x n (suc k) v l h) in
    record {
      small = omega arith;
      bits = w.bits ∙ e;
      bracket = record {
        q = q;
        j = suc k;
        X = n * P;
        input = v;
        output = subst (λ (z : Float). HasValue z false (q * 2 ^ suc k) (2 ^ 150)) e w.value;
        low = lo;
        high = hi;
        place = mul-le-mul_right P l;
        above = subst (λ (z : ℕ). (2 * q - 1) * (2 * q - 1) * P < z) (mul_assoc 4 n P) (mul-lt-mul_of_pos_right (half_below q lo near.1) (four_pos (suc k)));
        below = subst (λ (z : ℕ). z < (2 * q + 1) * (2 * q + 1) * P) (mul_assoc 4 n P) (mul-lt-mul_of_pos_right (half_above q near.0) (four_pos (suc k)));
      };
    }
  where
    half_below : (q : ℕ) → 2 ^ 23 ≤ q → q * q < n + q → (2 * q - 1) * (2 * q - 1) < 4 * n
    half_below zero a b = omega arith
    half_below (suc q) a b = odd_square (2 * suc q - 1) (omega arith)
      where
        odd_square : (z : ℕ) → z ≡ 2 * q + 1 → z * z < 4 * n
        odd_square z e = rw e (omega arith)

    half_above : (q : ℕ) → n ≤ q * q + q → 4 * n < (2 * q + 1) * (2 * q + 1)
    half_above q a = omega arith

-- twice, or once
factor : (p : ℕ) → 2 - p % 2 ≡ 2 ^ (1 - p % 2)
factor p = go (p % 2) (omega arith)
  where
    go : (r : ℕ) → r < 2 → 2 - r ≡ 2 ^ (1 - r)
    go zero h = refl
    go (suc zero) h = refl
    go (suc (suc r)) h = absurd (no h)
      where
        no : suc (suc r) < 2 → ⊥
        no g = omega arith

pub scaled_low : (s p : ℕ) → 2 ^ 23 ≤ s → 2 ^ 46 ≤ scaled_to s p
scaled_low s p g = mul-le-mul {n₁ = 2 ^ 46} {m₁ = 1} (mul-le-mul_right (2 ^ 23) g) (omega arith)

pub scaled_high : (s p : ℕ) → s < 2 ^ 24 → scaled_to s p < 2 ^ 48
scaled_high s p g = lt_of_le_of_lt (mul-le-mul_left (s * 2 ^ 23) (sub-le 2 (p % 2))) (omega arith)

pub found : (x : Float) (sig p : ℕ) → HasValue x false (sig * 2 ^ p) (2 ^ 214) → 2 ^ 23 ≤ sig → sig < 2 ^ 24 → p ≤ 318 → Found x (bits_of sig p)
found x sig p v l h s =
    let n = scaled_to sig p in
    let k = (p + 63) / 2 - 1 in
    let d = 1 - p % 2 in
    let e : n * 4 ^ suc k * 2 ^ 214 ≡ sig * 2 ^ p * 2 ^ 300 =
    ap₂ (λ (y z : ℕ). sig * 2 ^ 23 * y * z * 2 ^ 214) (factor p) (four_pow (suc k))
    ∙ ap (λ (z : ℕ). z * 2 ^ (2 * suc k) * 2 ^ 214) (gather sig 23 d)
    ∙ ap (λ (z : ℕ). z * 2 ^ 214) (gather sig (23 + d) (2 * suc k))
    ∙ pow_same sig (23 + d + 2 * suc k) 214 p 300 (omega arith) in
    at_scale x n k (rescale x (sig * 2 ^ p) (2 ^ 214) (n * 4 ^ suc k) (2 ^ 300) (pow_pos 214) e v) (scaled_low sig p l) (scaled_high sig p h) (omega arith)
