-- The key follows the order of numbers. The bits of a size grow with it, and they are turned over exactly where the sign is set; that they grow
-- strictly follows from the bits' telling floats apart.
use mathlib.Core.Path.{◌≡◌, refl, sym, ◌∙◌, subst, subst₂}
use mathlib.Core.Logic.{◌⊎◌, inl, inr}
use mathlib.Core.Bool.{Bool, true, false, cond}
use Prim.Native.Nat.{ℕ, ◌+◌, ◌-◌, ◌*◌, ◌/◌, ◌^◌, ◌≤◌, ◌<◌}
use native.Mathlib.Nat.{eq-or-lt_of_le, lt_irrefl, lt_of_le_of_lt, lt_of_not-le, le_of_suc-le-suc, not-le_of_lt, le-div_iff_mul-le}
use native.Mathlib.Omega.{arith}
use borrow.Author.Tests.{leb-true, leb-false}
use lib.Arith.{lt_of_le-ne}
use lib.Dec.{T, leb}
use lib.Pow.{pow-add, pow_pos, shr_mono}
use lib.Ieee.{Float, binary32, size, fits, to_bits}
use lib.Ieee.Bits.{to_bits-lt}
use lib.Ieee.Digits.{size-lt, size-le, size_reaches}
use lib.Ieee.Fits.{kept-lt}
use Rattle.floats.specs.Key.{folded, key_of}
use Rattle.floats.proofs.BitsLaws.{folded_high, folded_low, key_narrow}
use Rattle.float_order.specs.Order.{Number, sign_of, units_of, signed, rank, KeyFollowsOrder}
use Rattle.float_order.proofs.ValueLaws.{bits_unique}
use Rattle.float_order.proofs.SizeLaws.{rank_is, units_le, bits_is}

-- ---- the bits of a size of n units grow with n

digits : ℕ → ℕ
digits n = (size n - 24) * 2 ^ 23 + n / 2 ^ (size n - 24)

size_mono : (a b : ℕ) → a ≤ b → size a - 24 ≤ size b - 24
size_mono a b h = omega (arith, size-le a (size b) (lt_of_le_of_lt h (size-lt b)))

-- where digits are dropped, the leading one is kept
kept_ge : (n : ℕ) → 0 < size n - 24 → 2 ^ 23 ≤ n / 2 ^ (size n - 24)
kept_ge n h =
    (le-div_iff_mul-le (pow_pos (size n - 24))).1 (subst (λ (z : ℕ). z ≤ n) (pow-add 2 23 (size n - 24)) (size_reaches n (23 + (size n - 24)) (omega arith)))

digits_mono : (a b : ℕ) → a ≤ b → digits a ≤ digits b
unfolding digits
digits_mono a b h = go (eq-or-lt_of_le (size_mono a b h))
  where
    go : (size a - 24 ≡ size b - 24) ⊎ (size a - 24 < size b - 24) → digits a ≤ digits b
    go (inl e) = subst (λ (k : ℕ). k * 2 ^ 23 + a / 2 ^ k ≤ digits b) (sym e) (omega (arith, shr_mono (size b - 24) h))
    go (inr l) = omega (arith, kept-lt 24 a, kept_ge b (omega arith))

digits_le : (n : ℕ) → n ≤ 2 ^ 277 → digits n ≤ 255 * 2 ^ 23
unfolding digits size
digits_le n h = digits_mono n (2 ^ 277) h

digits_lt : (n : ℕ) → n ≤ 2 ^ 277 → digits n < 2 ^ 31
digits_lt n h = omega (arith, digits_le n h)

-- ---- the key, from the sign and the size

key_folds : (s : Bool) (b k q : ℕ) → k * 2 ^ 23 + q ≤ 255 * 2 ^ 23 → b ≡ cond s (2 ^ 31) 0 + k * 2 ^ 23 + q
    → folded b ≡ cond s (2 ^ 31 - 1 - (k * 2 ^ 23 + q)) (2 ^ 31 + (k * 2 ^ 23 + q))
key_folds true b k q h e = folded_high b (omega arith) ∙ omega arith
key_folds false b k q h e = folded_low b (omega arith) ∙ omega arith

key_is : (x : Float) → Number x → key_of x ≡ cond (sign_of x) (2 ^ 31 - 1 - digits (units_of x)) (2 ^ 31 + digits (units_of x))
unfolding digits
key_is x p =
    let n = units_of x in
    key_folds (sign_of x) (to_bits binary32 x) (size n - 24) (n / 2 ^ (size n - 24)) (digits_le n (units_le x p)) (bits_is x p)

-- ---- the key tells floats apart

folded_unique : (b c : ℕ) → b < 2 ^ 32 → c < 2 ^ 32 → folded b ≡ folded c → b ≡ c
folded_unique b c p q = go (leb (2 ^ 31) b) (leb (2 ^ 31) c) refl refl
  where
    go : (s t : Bool) → leb (2 ^ 31) b ≡ s → leb (2 ^ 31) c ≡ t → cond s (2 ^ 32 - 1 - b) (2 ^ 31 + b) ≡ cond t (2 ^ 32 - 1 - c) (2 ^ 31 + c) → b ≡ c
    go true true h k e = omega arith
    go true false h k e = omega (arith, leb-true, leb-false)
    go false true h k e = omega (arith, leb-true, leb-false)
    go false false h k e = omega arith

pub key_unique : (x y : Float) → T (fits binary32 x) → T (fits binary32 y) → key_of x ≡ key_of y → x ≡ y
key_unique x y p q h = bits_unique x y p q (folded_unique (to_bits binary32 x) (to_bits binary32 y) (to_bits-lt binary32 x p) (to_bits-lt binary32 y q) h)

-- ---- and follows the order

-- sizes a and b up to B with bits u and v below C
ordered : (B C a b u v : ℕ) (s t : Bool) → a ≤ B → b ≤ B → u < C → v < C → (a ≤ b → u ≤ v) → (b ≤ a → v ≤ u)
    → signed B s a < signed B t b → cond s (C - 1 - u) (C + u) ≤ cond t (C - 1 - v) (C + v)
ordered B C a b u v false false h k i j f g l = omega (arith, f (omega arith))
ordered B C a b u v false true h k i j f g l = omega arith
ordered B C a b u v true false h k i j f g l = omega arith
ordered B C a b u v true true h k i j f g l = omega (arith, g (omega arith))

pub key_lt : (x y : Float) → Number x → Number y → rank x < rank y → key_of x < key_of y
key_lt x y p q h =
    let a = units_of x in
    let b = units_of y in
    let weak : key_of x ≤ key_of y =
    subst₂ (λ (u v : ℕ). u ≤ v) (sym (key_is x p)) (sym (key_is y q))
    (ordered (2 ^ 277) (2 ^ 31) a b (digits a) (digits b) (sign_of x) (sign_of y) (units_le x p) (units_le y q) (digits_lt a (units_le x p)) (digits_lt b (units_le y q))
    (digits_mono a b) (digits_mono b a) (subst₂ (λ (u v : ℕ). u < v) (rank_is x p) (rank_is y q) h)) in
    lt_of_le-ne weak (λ e. lt_irrefl (rank y) (subst (λ (z : Float). rank z < rank y) (key_unique x y p.fit q.fit e) h))

pub key_le : (x y : Float) → Number x → Number y → key_of x ≤ key_of y → rank x ≤ rank y
key_le x y p q h = le_of_suc-le-suc (lt_of_not-le (λ (g : rank y < rank x). not-le_of_lt (key_lt y x q p g) h))

pub key_follows_order : KeyFollowsOrder
key_follows_order = record { less = key_lt; at_most = key_le; unique = key_unique; narrow = λ x p. key_narrow x }
