-- The first number that a test fails of: it exists, and only one number is it.
use Prim.Native.Nat.{ℕ, zero, suc, ◌+◌, ◌-◌, ◌*◌, ◌≤◌, ◌<◌}
use native.Mathlib.Nat.{mul_comm}
use native.Mathlib.Omega.{arith}
use native.Mathlib.Decide.{dec_lt}
use mathlib.Core.Path.{◌≡◌, refl, sym, ap, ◌∙◌}
use mathlib.Core.Bool.{Bool, true, false, cond}
use lib.Dec.{eqb}
use lib.Arith.{digits_lt}
use borrow.Author.Tests.{eqb-true, eqb-false}
use Rattle.loops.proofs.TestLaws.{clash}
use Rattle.loops.proofs.LoopLaws.{below_suc}
use Rattle.loops.specs.Firsts.{first_failing, First}

-- one number more is tested
more : {p : ℕ → Bool} {n f : ℕ} → First n p f → First (suc n) p (cond (eqb f n) (cond (p n) (suc n) n) f)
more {p} {n} {f} s = go (eqb f n) refl (p n) refl
  where
    go : (b : Bool) → eqb f n ≡ b → (t : Bool) → p n ≡ t → First (suc n) p (cond b (cond t (suc n) n) f)
    go true e true h =
        let q : f ≡ n = eqb-true f n e in
        record { bound = omega arith; earlier = below_suc (λ i. p i ≡ true) n (λ i l. s.earlier i (omega arith)) h; fails = λ l. absurd (omega arith) }
    go true e false h =
        let q : f ≡ n = eqb-true f n e in
        record { bound = omega arith; earlier = λ i l. s.earlier i (omega arith); fails = λ l. h }
    go false e t h =
        let q : f ≡ n → ⊥ = eqb-false f n e in
        let b : f ≤ n = s.bound in
        record { bound = omega arith; earlier = s.earlier; fails = λ l. s.fails (omega arith) }

pub first_of_lem : (n : ℕ) (p : ℕ → Bool) → First n p (first_failing n p)
unfolding first_failing
first_of_lem zero p = record { bound = omega arith; earlier = λ i l. absurd (omega arith); fails = λ l. absurd (omega arith) }
first_of_lem (suc n) p = more (first_of_lem n p)

-- two first numbers are one
pub first_only : {n : ℕ} {p : ℕ → Bool} {f g : ℕ} → First n p f → First n p g → f ≡ g
first_only {n} {p} {f} {g} a b = go (dec_lt f g) (dec_lt g f)
  where
    go : Dec (f < g) → Dec (g < f) → f ≡ g
    go (yes l) d = let z : f < n = omega (arith, b.bound) in absurd (clash (b.earlier f l) (a.fails z))
    go (no l) (yes k) = let z : g < n = omega (arith, a.bound) in absurd (clash (a.earlier g k) (b.fails z))
    go (no l) (no k) = omega arith

pub first_is : {n : ℕ} {p : ℕ → Bool} {f : ℕ} → First n p f → f ≡ first_failing n p
first_is {n} {p} s = first_only s (first_of_lem n p)

-- none fails exactly if the first is n
pub first_all : (n : ℕ) (p : ℕ → Bool) → ((i : ℕ) → i < n → p i ≡ true) → first_failing n p ≡ n
first_all n p h = sym (first_is (record { bound = omega arith; earlier = h; fails = λ l. absurd (omega arith) }))

pub all_first : (n : ℕ) (p : ℕ → Bool) → first_failing n p ≡ n → (i : ℕ) → i < n → p i ≡ true
all_first n p e i l = (first_of_lem n p).earlier i (omega arith)

-- a search that stops at a number that fails, or comes to the end
pub first_stop : {n : ℕ} {p : ℕ → Bool} {f : ℕ} → ((i : ℕ) → i < f → p i ≡ true) → f ≤ n → p f ≡ false → First n p f
first_stop h l e = record { bound = l; earlier = h; fails = λ k. e }

pub first_end : {n : ℕ} {p : ℕ → Bool} → ((i : ℕ) → i < n → p i ≡ true) → First n p n
first_end h = record { bound = omega arith; earlier = h; fails = λ k. absurd (omega arith) }

-- row after row of w numbers
module _ (p : ℕ → Bool) (w y : ℕ) (passed : (c : ℕ) → c < y * w → p c ≡ true) {x : ℕ} (s : First w (λ i. p (i + y * w)) x) where
  in_row : (c : ℕ) → c < x + y * w → p c ≡ true
  in_row c l = go (dec_lt c (y * w))
    where
      go : Dec (c < y * w) → p c ≡ true
      go (yes k) = passed c k
      go (no k) =
          let e : c ≡ (c - y * w) + y * w = omega arith in
          ap p e ∙ s.earlier (c - y * w) (omega arith)

  pub rows_more : w ≤ x → (c : ℕ) → c < (y + 1) * w → p c ≡ true
  rows_more h c l = in_row c (omega (arith, s.bound))

  pub rows_stop : {h : ℕ} → x < w → y < h → First (w * h) p (x + y * w)
  rows_stop {h} l k = record { bound = omega (arith, digits_lt k l, mul_comm w h); earlier = in_row; fails = λ m. s.fails l }

pub rows_end : (p : ℕ → Bool) (w h y : ℕ) → ((c : ℕ) → c < y * w → p c ≡ true) → y ≤ h → h ≤ y → First (w * h) p (w * h)
rows_end p w h y passed a b =
    let same : y ≡ h = omega arith in
    first_end (λ c l. passed c (omega (arith, ap (λ (k : ℕ). k * w) same, mul_comm w h)))
