use mathlib.Core.Path.{◌≡◌, sym, ap, ◌∙◌, subst}
use mathlib.Core.Bool.{not}
use Prim.Native.Nat.{ℕ, ◌+◌, ◌-◌, ◌*◌, ◌/◌, ◌%◌, ◌^◌, ◌≤◌, ◌<◌}
use native.Mathlib.Nat.{mod-eq_of_lt, lt_of_lt_of_le}
use native.Mathlib.Omega.{arith}
use lib.Dec.{T, lit≤}
use lib.Count.{count_leading_zeros}
use lib.Ieee.{binary32, nan_bits, of_bits}
use Rattle.square_root.specs.Inner.{bits_of}
use Rattle.square_root.proofs.BitsLaws.{Raised, raised, no_nan}
use Rattle.square_root.proofs.RootLaws.{Found}
use Rattle.square_root.proofs.FloatLaws.{low_root, normal_root}
use Rattle.square_root.proofs.positive_root.Goals as goal
use Rattle.square_root.proofs.positive_root.Goals.{After-root_bits, Else-b-lt8388608, Then-b-lt8388608}

-- below the smallest normal float
abbrev shift : Then-b-lt8388608 → ℕ
shift c = count_leading_zeros 32 c.args.b - 8

low : (c : Then-b-lt8388608) → (8 ≤ count_leading_zeros 32 c.args.b) × Raised c.args.b (shift c)
low c = raised c.args.b c.requires.0 c.if-b-lt8388608.true

low-found : (c : Then-b-lt8388608) → Found (of_bits binary32 c.args.b) (bits_of (c.args.b * 2 ^ shift c) (65 - shift c))
low-found c = low_root c.args.b c.requires.0 c.if-b-lt8388608.true

kept : (c : Then-b-lt8388608) → c.args.b * 2 ^ shift c % 2 ^ 32 ≡ c.args.b * 2 ^ shift c
kept c = mod-eq_of_lt (lt_of_lt_of_le (low c).1.high (lit≤ tt))

low_bits : (c : After-root_bits) → c.root_bits.result ≡ bits_of (c.args.b * 2 ^ shift c.before) (65 - shift c.before)
low_bits c = c.root_bits.ensures ∙ ap (λ (s : ℕ). bits_of s (65 - shift c.before)) (kept c.before)

normal-found : (c : Else-b-lt8388608) → Found (of_bits binary32 c.args.b) (bits_of (2 ^ 23 + c.args.b % 2 ^ 23) (c.args.b / 2 ^ 23 + 64))
normal-found c = normal_root c.args.b c.if-b-lt8388608.false c.requires.1

pub overflow_sub-h : goal.overflow_sub-h
overflow_sub-h c = (low c).0

pub overflow_shl-b : goal.overflow_shl-b
overflow_shl-b c = omega (arith, (low c).1.few)

pub overflow_sub-h-then-b-lt8388608 : goal.overflow_sub-h-then-b-lt8388608
overflow_sub-h-then-b-lt8388608 c = omega (arith, (low c).1.few)

pub root_bits-requires : goal.root_bits-requires
root_bits-requires c = (subst (λ (s : ℕ). 2 ^ 23 ≤ s) (sym (kept c)) (low c).1.low, subst (λ (s : ℕ). s < 2 ^ 24) (sym (kept c)) (low c).1.high, omega arith)

pub float_from_bits-result : goal.float_from_bits-result
float_from_bits-result c = subst (λ (b : ℕ). T (not (nan_bits binary32 b))) (sym (low_bits c)) (no_nan _ (low-found (goal.at.float_from_bits-result c).Then-b-lt8388608).small)

pub returns-then-b-lt8388608 : goal.returns-then-b-lt8388608
returns-then-b-lt8388608 c = ap (of_bits binary32) (low_bits c) ∙ (low-found (goal.at.returns-then-b-lt8388608 c).Then-b-lt8388608).bits

pub float_from_bits-result-2 : goal.float_from_bits-result-2
float_from_bits-result-2 c = subst (λ (b : ℕ). T (not (nan_bits binary32 b))) (sym c.root_bits-2.ensures) (no_nan _ (normal-found (goal.at.float_from_bits-result-2 c).Else-b-lt8388608).small)

pub returns : goal.returns
returns c = ap (of_bits binary32) c.root_bits-2.ensures ∙ (normal-found (goal.at.returns c).Else-b-lt8388608).bits
