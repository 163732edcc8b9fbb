-- A NaN and the bits: its patterns are those above an infinity's, whatever the sign, and it alone differs from itself. And `height_key` by the sign.
use Rattle.std.proofs.Common.{◌≡◌, ℕ, ◌+◌, ◌-◌, ◌%◌, ◌^◌, ◌<◌, ◌≤◌, Bool, true, false, cond, not, T, leb, sym, refl, ap, ◌∙◌, subst, true≢false, arith, le-ltb, lt-ltb, le-leb}
use borrow.Author.Tests.{lt-leb}
use lib.Dec.{nleb→lt}
use lib.Ieee.{Float, nan, inf, fin, binary32, ne, is_nan, nan_bits, of_bits, to_bits}
use lib.Ieee.Bits.{nan_bits_is, nan_bits_above, to_bits-of_bits}
use lib.Ieee.Compare.{differs_from_itself}
use Rattle.floats.specs.Key.{folded, key_of}

is_nan_lem : (x : Float) → is_nan x ≡ true → x ≡ nan
unfolding is_nan
is_nan_lem nan h = refl
is_nan_lem (inf s) h = absurd (true≢false (sym h))
is_nan_lem (fin s m e) h = absurd (true≢false (sym h))

pub nan_pattern : (b : ℕ) → 0x7f80_0000 < b % 2 ^ 31 → of_bits binary32 b ≡ nan
nan_pattern b h = is_nan_lem (of_bits binary32 b) (sym (nan_bits_is binary32 b) ∙ nan_bits_above binary32 b ∙ lt-ltb 0x7f80_0000 (b % 2 ^ 31) h)

pub no_nan_pattern : (b : ℕ) → b % 2 ^ 31 ≤ 0x7f80_0000 → T (not (nan_bits binary32 b))
no_nan_pattern b h = subst (λ (z : Bool). T (not z)) (sym (nan_bits_above binary32 b ∙ le-ltb 0x7f80_0000 (b % 2 ^ 31) h)) tt

-- a number as the bits of a float, no greater than an infinity's: it is no NaN, and comes back
pub plain_bits : {b : ℕ} → b ≤ 0x7f80_0000 → T (not (is_nan (of_bits binary32 b)))
plain_bits {b} h = subst (λ (t : Bool). T (not t)) (nan_bits_is binary32 b) (no_nan_pattern b (omega arith))

pub bits_back : {b : ℕ} → b ≤ 0x7f80_0000 → to_bits binary32 (of_bits binary32 b) ≡ b
bits_back {b} h = to_bits-of_bits binary32 b (omega arith) (plain_bits h)

pub nan_bits_lem : (x : Float) → ne x x ≡ true → 0x7fc0_0000 ≡ to_bits binary32 x
nan_bits_lem x h = subst (λ (z : Float). 0x7fc0_0000 ≡ to_bits binary32 z) (sym (differs_from_itself x (subst T (sym h) tt))) (unfold to_bits in refl)

pub no_nan : (x : Float) → ne x x ≡ false → T (not (is_nan x))
unfolding ne is_nan
no_nan nan h = absurd (true≢false h)
no_nan (inf s) h = tt
no_nan (fin s m e) h = tt

-- a pattern with its sign set, and one with its sign clear
pub folded_high : (b : ℕ) → 2 ^ 31 ≤ b → folded b ≡ 2 ^ 32 - 1 - b
folded_high b h = ap (λ (t : Bool). cond t (2 ^ 32 - 1 - b) (2 ^ 31 + b)) (le-leb (2 ^ 31) b h)

pub folded_low : (b : ℕ) → b < 2 ^ 31 → folded b ≡ 2 ^ 31 + b
folded_low b h = ap (λ (t : Bool). cond t (2 ^ 32 - 1 - b) (2 ^ 31 + b)) (lt-leb (2 ^ 31) b h)

pub key_high : (x : Float) (b : ℕ) → b ≡ to_bits binary32 x → 2 ^ 31 ≤ b → 2 ^ 32 - 1 - b ≡ key_of x
key_high x b e h = sym (folded_high b h) ∙ ap folded e

pub key_low : (x : Float) (b : ℕ) → b ≡ to_bits binary32 x → b < 2 ^ 31 → 2 ^ 31 + b ≡ key_of x
key_low x b e h = sym (folded_low b h) ∙ ap folded e

-- a key is a u32, whatever the float
pub key_narrow : (x : Float) → key_of x < 2 ^ 32
key_narrow x = go (leb (2 ^ 31) (to_bits binary32 x)) (nleb→lt (2 ^ 31) (to_bits binary32 x))
  where
    most : (b : ℕ) → 2 ^ 32 - 1 - b < 2 ^ 32
    most b = omega arith

    raised : (b : ℕ) → b < 2 ^ 31 → 2 ^ 31 + b < 2 ^ 32
    raised b h = omega arith

    go : (p : Bool) → (T (not p) → to_bits binary32 x < 2 ^ 31) → cond p (2 ^ 32 - 1 - to_bits binary32 x) (2 ^ 31 + to_bits binary32 x) < 2 ^ 32
    go true h = most (to_bits binary32 x)
    go false h = raised (to_bits binary32 x) (h tt)
