-- Turns in another order: steps of two loops that do not disturb each other.
use Prim.Native.Nat.{ℕ, zero, suc, ◌<◌}
use mathlib.Core.Path.{◌≡◌, refl, sym, ap, ◌∙◌}
use native.Mathlib.Omega.{arith}
use lib.Dec.{lit≤}
use Rattle.loops.specs.Loops.{turns}

module _ {S : Type 0} where
  -- a step before or after a loop
  turns_past : (f : S → S) (g : ℕ → S → S) (n : ℕ) → ((i : ℕ) (t : S) → i < n → f (g i t) ≡ g i (f t)) → (s : S) → f (turns n g s) ≡ turns n g (f s)
  unfolding turns
  turns_past f g zero h s = refl
  turns_past f g (suc n) h s = h n (turns n g s) (omega arith) ∙ ap (g n) (turns_past f g n (λ i t l. h i t (omega arith)) s)

  -- one loop of two steps is two loops
  turns_two : (f g : ℕ → S → S) (n : ℕ) → ((i j : ℕ) (t : S) → i < j → j < n → g j (f i t) ≡ f i (g j t)) → (s : S)
      → turns n (λ i (t : S). f i (g i t)) s ≡ turns n f (turns n g s)
  unfolding turns
  turns_two f g zero h s = refl
  turns_two f g (suc n) h s =
      ap (λ (t : S). f n (g n t)) (turns_two f g n (λ i j t l m. h i j t l (omega arith)) s)
      ∙ ap (f n) (turns_past (g n) f n (λ i t l. h i n t l (omega arith)) (turns n g s))

  -- a loop of k steps is k loops
  pub turns_across : (f : ℕ → ℕ → S → S) (n k : ℕ)
      → ((a b i j : ℕ) (t : S) → a < b → b < k → i < j → j < n → f a j (f b i t) ≡ f b i (f a j t)) → (s : S)
      → turns n (λ i. turns k (λ a. f a i)) s ≡ turns k (λ a. turns n (f a)) s
  unfolding turns
  turns_across f n zero h s = none n
    where
      none : (m : ℕ) → turns m (λ i (t : S). t) s ≡ s
      none zero = refl
      none (suc m) = none m
  turns_across f n (suc k) h s =
      turns_two (f k) (λ i. turns k (λ a. f a i)) n
      (λ i j t l m. sym (turns_past (f k i) (λ a. f a j) k (λ a u b. sym (h a k i j u b (omega arith) l m)) t)) s
      ∙ ap (turns n (f k)) (turns_across f n k (λ a b i j t l m. h a b i j t l (omega arith)) s)

-- nine steps that do not disturb each other, from the order of the directions to that of the loops
module _ {S : Type 0} (f : ℕ → S → S) (h : (a b : ℕ) (t : S) → a < b → b < 9 → f a (f b t) ≡ f b (f a t)) where
  three_back : (a b c : ℕ) (t : S) → a < b → b < c → c < 9 → f a (f b (f c t)) ≡ f c (f b (f a t))
  three_back a b c t l m n = ap (f a) (h b c t m n) ∙ h a c (f b t) (omega arith) n ∙ ap (f c) (h a b t l (omega arith))

  -- step 4 after three before it
  four_last : (t : S) → f 0 (f 1 (f 2 (f 4 t))) ≡ f 4 (f 2 (f 1 (f 0 t)))
  four_last t =
      three_back 0 1 2 (f 4 t) (lit≤ tt) (lit≤ tt) (lit≤ tt) ∙ ap (λ (u : S). f 2 (f 1 u)) (h 0 4 t (lit≤ tt) (lit≤ tt))
      ∙ ap (f 2) (h 1 4 (f 0 t) (lit≤ tt) (lit≤ tt)) ∙ h 2 4 (f 1 (f 0 t)) (lit≤ tt) (lit≤ tt)

  pub nine_steps : (t : S) → f 6 (f 7 (f 8 (f 3 (f 5 (f 0 (f 1 (f 2 (f 4 t)))))))) ≡ turns 9 f t
  unfolding turns
  nine_steps t =
      three_back 6 7 8 _ (lit≤ tt) (lit≤ tt) (lit≤ tt)
      ∙ ap (λ (u : S). f 8 (f 7 (f 6 u)))
      (ap (λ (u : S). f 3 (f 5 u)) (four_last t) ∙ h 3 5 _ (lit≤ tt) (lit≤ tt) ∙ ap (f 5) (h 3 4 _ (lit≤ tt) (lit≤ tt)))
