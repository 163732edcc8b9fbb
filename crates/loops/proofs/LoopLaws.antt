-- A counting loop by the state that its turns make: at the start, after one turn more and at the end. And a loop that tests all numbers below n.
use Prim.Native.Nat.{ℕ, zero, suc, ◌+◌, ◌≤◌, ◌<◌}
use native.Mathlib.Omega.{arith}
use native.Mathlib.Nat.{eq-or-lt_of_le, le_of_suc-le-suc}
use mathlib.Core.Path.{◌≡◌, sym, ap, ◌∙◌, subst}
use mathlib.Core.Logic.{inl, inr}
use mathlib.Core.Bool.{Bool, true, ◌&&◌}
use Rattle.loops.specs.Loops.{turns}
use Rattle.loops.proofs.TestLaws.{both}
use Rattle.loops.proofs.TurnLaws.{turns_none, turns_more}

-- a value that i turns make is that of all n turns once i has come to n
pub at_end : {A : Type 0} (f : ℕ → A) {x : A} {i n : ℕ} → x ≡ f i → i ≤ n → n ≤ i → x ≡ f n
at_end f {i = i} {n} e a b = let same : i ≡ n = omega arith in e ∙ ap f same

-- what holds of every number below n and of n
pub below_suc : (P : ℕ → Type 0) (n : ℕ) → ((i : ℕ) → i < n → P i) → P n → (i : ℕ) → i < suc n → P i
below_suc P n h p i l = elim (eq-or-lt_of_le (le_of_suc-le-suc l)) [ inl e ↦ subst P (sym e) p | inr m ↦ h i m ]

-- s is the state after i of n turns of f
pub record Turning {S : Type 0} (f : ℕ → S → S) (n i : ℕ) (start s : S) : Type 0 where
  pub place : i ≤ n
  pub state : s ≡ turns i f start

module _ {S : Type 0} {f : ℕ → S → S} {n : ℕ} {start : S} where
  pub turning_none : Turning f n 0 start start
  turning_none = record { place = omega arith; state = sym (turns_none f start) }

  pub turning_more : {i : ℕ} {s r : S} → Turning f n i start s → i < n → r ≡ f i s → Turning f n (i + 1) start r
  turning_more {i} p l e = record { place = omega arith; state = e ∙ ap (f i) p.state ∙ sym (turns_more f i start) }

  pub turning_done : {i : ℕ} {s : S} → Turning f n i start s → n ≤ i → s ≡ turns n f start
  turning_done p l = at_end (λ (k : ℕ). turns k f start) p.state p.place l

-- every number passes
pub all_pass : (n : ℕ) (f : ℕ → Bool) → turns n (λ i good. good && f i) true ≡ true → (i : ℕ) → i < n → f i ≡ true
unfolding turns
all_pass zero f e i l = absurd (omega arith)
all_pass (suc n) f e i l =
    let parts = both (turns n (λ i good. good && f i) true) (f n) e in
    below_suc (λ i. f i ≡ true) n (all_pass n f parts.0) parts.1 i l

-- counting up to n
pub up_to : (P : ℕ → Type 0) (n : ℕ) → P 0 → ((i : ℕ) → i < n → P i → P (suc i)) → (i : ℕ) → i ≤ n → P i
up_to P n p k zero l = p
up_to P n p k (suc i) l = k i l (up_to P n p k i (omega arith))
