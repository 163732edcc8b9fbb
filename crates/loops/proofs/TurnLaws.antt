-- Laws of `turns`: it starts with the state given, one turn more is one step more, steps that agree below n agree, and a state that a step keeps stays.
use Prim.Native.Nat.{ℕ, zero, suc, ◌+◌, ◌*◌, ◌<◌}
use mathlib.Core.Path.{◌≡◌, refl, ap, ◌∙◌}
use native.Mathlib.Numerals.{add-one}
use native.Mathlib.Omega.{arith}
use Rattle.loops.specs.Loops.{turns}

module _ {S : Type 0} (f : ℕ → S → S) where
  pub turns_none : (s : S) → turns 0 f s ≡ s
  unfolding turns
  turns_none s = refl

  -- one turn more, at the code's i + 1
  pub turns_more : (i : ℕ) (s : S) → turns (i + 1) f s ≡ f i (turns i f s)
  unfolding turns
  turns_more i s = ap (λ (n : ℕ). turns n f s) (add-one i)

  -- what holds at the start and is kept by each turn below n holds after n turns
  pub turns_keep : (P : S → Type 0) (s : S) (n : ℕ) → P s → ((i : ℕ) (t : S) → i < n → P t → P (f i t)) → P (turns n f s)
  unfolding turns
  turns_keep P s zero p k = p
  turns_keep P s (suc n) p k = k n (turns n f s) (omega arith) (turns_keep P s n p (λ i t h. k i t (omega arith)))

-- two steps that agree below n
pub turns_same : {S : Type 0} (f g : ℕ → S → S) (s : S) (n : ℕ) → ((i : ℕ) (t : S) → i < n → f i t ≡ g i t) → turns n f s ≡ turns n g s
unfolding turns
turns_same f g s zero h = refl
turns_same f g s (suc n) h = h n (turns n f s) (omega arith) ∙ ap (g n) (turns_same f g s n (λ i t l. h i t (omega arith)))

-- a state that every later turn keeps is the state at the end
pub turns_stay : {S : Type 0} (f : ℕ → S → S) (s : S) (i k : ℕ) → ((j : ℕ) → f j (turns i f s) ≡ turns i f s) → turns (i + k) f s ≡ turns i f s
unfolding turns
turns_stay f s i zero h = let e : i + 0 ≡ i = omega arith in ap (λ (n : ℕ). turns n f s) e
turns_stay f s i (suc k) h =
    let e : i + suc k ≡ suc (i + k) = omega arith in
    ap (λ (n : ℕ). turns n f s) e ∙ ap (f (i + k)) (turns_stay f s i k h) ∙ h (i + k)

-- what holds at turn 0, and at each next turn, holds at turn n
pub turns_hold : {S : Type 0} (f : ℕ → S → S) (P : ℕ → S → Type 0) (s : S) (n : ℕ) → P 0 s → ((i : ℕ) (t : S) → i < n → P i t → P (suc i) (f i t)) → P n (turns n f s)
unfolding turns
turns_hold f P s zero p k = p
turns_hold f P s (suc n) p k = k n (turns n f s) (omega arith) (turns_hold f P s n p (λ i t h. k i t (omega arith)))

-- a state that every turn keeps
pub turns_kept : {S : Type 0} (f : ℕ → S → S) (s : S) (n : ℕ) → ((i : ℕ) → f i s ≡ s) → turns n f s ≡ s
turns_kept f s n h = turns_hold f (λ i t. t ≡ s) s n refl (λ i t l e. ap (f i) e ∙ h i)

-- f seen through r is g, from states of P on
pub turns_through : {S U : Type 0} (f : ℕ → S → S) (g : ℕ → U → U) (r : S → U) (P : ℕ → S → Type 0) (s : S) (n : ℕ) → P 0 s
    → ((i : ℕ) (t : S) → i < n → P i t → P (suc i) (f i t)) → ((i : ℕ) (t : S) → i < n → P i t → r (f i t) ≡ g i (r t)) → r (turns n f s) ≡ turns n g (r s)
unfolding turns
turns_through f g r P s zero p k e = refl
turns_through f g r P s (suc n) p k e =
    e n (turns n f s) (omega arith) (turns_hold f P s n p (λ i t l. k i t (omega arith)))
    ∙ ap (g n) (turns_through f g r P s n p (λ i t l. k i t (omega arith)) (λ i t l. e i t (omega arith)))

-- one step over and over: a + b of them, and n times k
module _ {S : Type 0} (f : S → S) where
  pub turns_split : (a b : ℕ) (s : S) → turns (a + b) (λ i. f) s ≡ turns a (λ i. f) (turns b (λ i. f) s)
  unfolding turns
  turns_split zero b s = let e : 0 + b ≡ b = omega arith in ap (λ (n : ℕ). turns n (λ i. f) s) e
  turns_split (suc a) b s = let e : suc a + b ≡ suc (a + b) = omega arith in ap (λ (n : ℕ). turns n (λ i. f) s) e ∙ ap f (turns_split a b s)

  pub turns_product : (n k : ℕ) (s : S) → turns (n * k) (λ i. f) s ≡ turns n (λ i. turns k (λ j. f)) s
  unfolding turns
  turns_product zero k s = let e : 0 * k ≡ 0 = omega arith in ap (λ (n : ℕ). turns n (λ i. f) s) e
  turns_product (suc n) k s =
      let e : suc n * k ≡ k + n * k = omega arith in
      ap (λ (n : ℕ). turns n (λ i. f) s) e ∙ turns_split k (n * k) s ∙ ap (turns k (λ j. f)) (turns_product n k s)
