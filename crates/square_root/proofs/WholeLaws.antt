-- The whole root of n by its digits, and the nearest whole root, each fixed by squares.
use mathlib.Core.Path.{◌≡◌, subst}
use mathlib.Core.Bool.{Bool, true, false, not, cond}
use Prim.Native.Nat.{ℕ, zero, suc, ◌+◌, ◌-◌, ◌*◌, ◌^◌, ◌≤◌, ◌<◌, zero-le}
use native.Mathlib.Nat.{mul-le-mul, mul-le-mul_right, le_antisymm, le_of_suc-le-suc, lt_of_not-le, pow-succ'}
use native.Mathlib.Omega.{arith}
use lib.Dec.{T, leb, ltb, leb→le, nleb→lt}
use borrow.Author.Tests.{ltb-true, ltb-false}
use Rattle.loops.proofs.TestLaws.{by_test}
use Rattle.square_root.specs.Root.{digits, whole_root, nearest_root}
use Rattle.square_root.specs.Inner.{Over}

pub not_above : {a b : ℕ} → (b < a → ⊥) → a ≤ b
not_above h = le_of_suc-le-suc (lt_of_not-le h)

pub square_mono : {a b : ℕ} → a ≤ b → a * a ≤ b * b
square_mono h = mul-le-mul h h

-- a's square is not above n and that of b + 1 is
pub below_root : (a b n : ℕ) → a * a ≤ n → n < (b + 1) * (b + 1) → a ≤ b
below_root a b n h k = not_above (λ (g : b < a). no (square_mono g))
  where
    no : suc b * suc b ≤ a * a → ⊥
    no g = omega arith

-- ---- the digits

-- d is the greatest number whose square is not above n
abbrev pub Bracket : ℕ → ℕ → Type 0
Bracket n d = (d * d ≤ n) × (n < (d + 1) * (d + 1))

digits_bracket : (k r n : ℕ) → r * r ≤ n → n < (r + 2 ^ k) * (r + 2 ^ k) → Bracket n (digits k r n)
unfolding digits
digits_bracket zero r n h l = (h, l)
digits_bracket (suc k) r n h l = go (leb ((r + 2 ^ k) * (r + 2 ^ k)) n) (leb→le _ _) (nleb→lt _ _) (digits_bracket k)
  where
    more : (p : ℕ) → n < (r + 2 * p) * (r + 2 * p) → n < (r + p + p) * (r + p + p)
    more p g = omega arith

    go : (b : Bool) → (T b → (r + 2 ^ k) * (r + 2 ^ k) ≤ n) → (T (not b) → n < (r + 2 ^ k) * (r + 2 ^ k))
        → ((s m : ℕ) → s * s ≤ m → m < (s + 2 ^ k) * (s + 2 ^ k) → Bracket m (digits k s m))
        → Bracket n (digits k (cond b (r + 2 ^ k) r) n)
    go true y z ih = ih (r + 2 ^ k) n (y tt) (more (2 ^ k) (subst (λ (w : ℕ). n < (r + w) * (r + w)) (pow-succ' 2 k) l))
    go false y z ih = ih r n h (z tt)

pub whole_bracket : (n : ℕ) → n < 2 ^ 48 → Bracket n (whole_root n)
unfolding whole_root
whole_bracket n h = digits_bracket 24 0 n (omega arith) h

-- ---- the nearest whole number: the root of n lies less than a half from q

abbrev pub NearSquare : ℕ → ℕ → Type 0
NearSquare n q = (n ≤ q * q + q) × (q * q < n + q)

short : (n q : ℕ) → 0 < n → q * q ≤ n → q * q < n + q
short n zero p h = omega arith
short n (suc q) p h = omega arith

near_le : (n p q : ℕ) → NearSquare n p → NearSquare n q → p ≤ q
near_le n zero q a b = zero-le
near_le n (suc t) q a b = not_above (λ (g : q < suc t). no (mul-le-mul (le_of_suc-le-suc g) g))
  where
    no : q * suc q ≤ t * suc t → ⊥
    no g = omega arith

near_unique : (n p q : ℕ) → NearSquare n p → NearSquare n q → p ≡ q
near_unique n p q a b = le_antisymm (near_le n p q a b) (near_le n q p b a)

pub nearest_near : (n : ℕ) → 0 < n → n < 2 ^ 48 → NearSquare n (nearest_root n)
unfolding nearest_root
nearest_near n p h =
    let w = whole_bracket n h in
    by_test (NearSquare n) (ltb (4 * n) ((2 * whole_root n + 1) * (2 * whole_root n + 1))) _ _ (λ t. (omega (arith, ltb-true), short n (whole_root n) p w.0)) (λ t. omega (arith, ltb-false, w))

-- what is near is the nearest
pub nearest_is : (n q : ℕ) → 0 < n → n < 2 ^ 48 → NearSquare n q → q ≡ nearest_root n
nearest_is n q p h a = near_unique n q (nearest_root n) a (nearest_near n p h)

-- the root of a number of 47 or 48 digits has 24, or is 2 ^ 24
pub near_low : (n q : ℕ) → NearSquare n q → 2 ^ 46 ≤ n → 2 ^ 23 ≤ q
near_low n q a h = not_above (λ (g : q < 2 ^ 23). no (mul-le-mul g g))
  where
    no : suc q * suc q ≤ 2 ^ 23 * 2 ^ 23 → ⊥
    no g = omega arith

pub near_high : (n q : ℕ) → NearSquare n q → n < 2 ^ 48 → q ≤ 2 ^ 24
near_high n q a h = not_above (λ (g : 2 ^ 24 < q). no g (mul-le-mul_right q g))
  where
    no : 2 ^ 24 < q → suc (2 ^ 24) * q ≤ q * q → ⊥
    no g k = omega arith

pub nearest_high : (n : ℕ) → 2 ^ 46 ≤ n → n < 2 ^ 48 → nearest_root n ≤ 2 ^ 24
nearest_high n l h = near_high n (nearest_root n) (nearest_near n (omega arith) h) h

-- ---- from the whole root or one above it to the nearest: what the code's two tests say

module _ (n s : ℕ) (l : 2 ^ 46 ≤ n) (h : n < 2 ^ 48) (o : Over n 1 s) where
  w : Bracket n (whole_root n)
  w = whole_bracket n h

  positive : 0 < n
  positive = omega arith

  pub one_below : n + s ≤ s * s → s - 1 ≡ nearest_root n
  one_below a =
      let e : s ≡ suc (s - 1) = omega (arith, above s a) in
      nearest_is n (s - 1) positive h (go (s - 1) (subst (λ (z : ℕ). n + z ≤ z * z) e a) (square_mono {a = s - 1} {b = whole_root n} (omega (arith, o.most))))
    where
      above : (z : ℕ) → n + z ≤ z * z → 0 < z
      above zero b = omega arith
      above (suc z) b = omega arith

      go : (t : ℕ) → n + suc t ≤ suc t * suc t → t * t ≤ whole_root n * whole_root n → NearSquare n t
      go t b c = (omega arith, short n t positive (omega (arith, w.0)))

  pub one_above : s * s + s < n → s + 1 ≡ nearest_root n
  one_above a = nearest_is n (s + 1) positive h (omega (arith, w.1, square_mono o.least))

  pub itself : s * s < n + s → n ≤ s * s + s → s ≡ nearest_root n
  itself a b = nearest_is n s positive h (b, a)
