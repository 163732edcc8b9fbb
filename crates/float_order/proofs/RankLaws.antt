-- What follows from the order of ranks: tests on numbers as facts of whole numbers and back, the total order, the greater of two, and that
-- numbers of one rank are the same float or zeros.
use mathlib.Core.Path.{◌≡◌, refl, sym, ◌∙◌}
use mathlib.Core.Logic.{◌⊎◌, inl, inr}
use mathlib.Core.Bool.{Bool, true, false, cond}
use Prim.Native.Nat.{ℕ, ◌^◌, ◌≤◌, ◌<◌, max}
use native.Mathlib.Nat.{max-eq_left, max-eq_right, le_of_lt}
use native.Mathlib.Omega.{arith}
use borrow.Author.Tests.{leb-true, leb-false, le-leb}
use lib.Dec.{T}
use lib.IntN.{pos}
use lib.Ieee.{Float, nan, inf, fin, binary32, le, fits, is_nan}
use lib.Ieee.Scale.{finite}
use Rattle.floats.specs.Stand.{max_of}
use Rattle.float_order.specs.Order.{Number, sign_of, units_of, signed, rank, Zero, RankFollowsOrder}
use Rattle.float_order.proofs.SizeLaws.{rank_is, units_le, units_unique}
use Rattle.float_order.proofs.OrderLaws.{lt_is, le_is, eq_is}

pub finite_number : (x : Float) → T (fits binary32 x) → T (finite x) → Number x
unfolding is_nan
finite_number nan p f = absurd f
finite_number (inf s) p f = absurd f
finite_number (fin s m e) p f = record { fit = p; real = tt }

-- ---- a test on two numbers, as a fact of their ranks, and back

module _ (x y : Float) (p : Number x) (q : Number y) where
  pub le_true : le x y ≡ true → rank x ≤ rank y
  le_true h = leb-true (rank x) (rank y) (sym (le_is x y p q) ∙ h)

  pub le_false : le x y ≡ false → rank y < rank x
  le_false h = leb-false (rank x) (rank y) (sym (le_is x y p q) ∙ h)

  pub rank_le : rank x ≤ rank y → le x y ≡ true
  rank_le h = le_is x y p q ∙ le-leb (rank x) (rank y) h

-- ---- the greater of two

-- it is one of them
pub max_keeps : (P : Float → Type 0) (a b : Float) → P a → P b → P (max_of a b)
max_keeps P a b p q = go (le b a)
  where
    go : (t : Bool) → P (cond t a b)
    go true = p
    go false = q

pub max_rank : (a b : Float) → Number a → Number b → rank (max_of a b) ≡ max (rank a) (rank b)
max_rank a b p q = go (le b a) refl
  where
    go : (t : Bool) → le b a ≡ t → rank (cond t a b) ≡ max (rank a) (rank b)
    go true h = sym (max-eq_left (le_true b a q p h))
    go false h = sym (max-eq_right (le_of_lt (le_false b a q p h)))

-- ---- numbers of one rank

zero_number : (s : Bool) → Number (fin s 0 (pos 0))
unfolding fits is_nan
zero_number s = record { fit = tt; real = tt }

no_units : (x : Float) → Number x → units_of x ≡ 0 → Zero x
no_units x p h = (sign_of x, units_unique x (fin (sign_of x) 0 (pos 0)) p (zero_number (sign_of x)) refl h)

same_signed : (B a b : ℕ) (s t : Bool) → a ≤ B → b ≤ B → signed B s a ≡ signed B t b → ((s ≡ t) × (a ≡ b)) ⊎ ((a ≡ 0) × (b ≡ 0))
same_signed B a b false false h k e = inl (refl, omega arith)
same_signed B a b false true h k e = inr (omega arith)
same_signed B a b true false h k e = inr (omega arith)
same_signed B a b true true h k e = inl (refl, omega arith)

pub rank_same : (x y : Float) → Number x → Number y → rank x ≡ rank y → (x ≡ y) ⊎ (Zero x × Zero y)
rank_same x y p q h =
    go (same_signed (2 ^ 277) (units_of x) (units_of y) (sign_of x) (sign_of y) (units_le x p) (units_le y q) (sym (rank_is x p) ∙ h ∙ rank_is y q))
  where
    go : ((sign_of x ≡ sign_of y) × (units_of x ≡ units_of y)) ⊎ ((units_of x ≡ 0) × (units_of y ≡ 0)) → (x ≡ y) ⊎ (Zero x × Zero y)
    go (inl e) = inl (units_unique x y p q e.0 e.1)
    go (inr z) = inr (no_units x p z.0, no_units y q z.1)

pub rank_follows_order : RankFollowsOrder
rank_follows_order = record { less = lt_is; at_most = le_is; equal = eq_is; greater = max_rank; same = rank_same }
