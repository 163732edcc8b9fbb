-- Ways down along a work list: the trail of a cell's unit through a backward pass is the cell's way down, which has at most n cells.
use Prim.Native.Nat.{ℕ, zero, suc, ◌+◌, ◌≤◌, ◌<◌}
use mathlib.Core.Path.{◌≡◌, refl, sym, ap, ◌∙◌, subst}
use mathlib.Core.Logic.{inl, inr}
use mathlib.Core.Bool.{Bool, true, false, ◌&&◌, ◌||◌, cond, or-true}
use mathlib.Core.List.{List, [], ◌∷◌, ◌++◌, append_assoc}
use native.Mathlib.Nat.{eq-or-lt_of_le, le_of_suc-le-suc}
use native.Mathlib.Omega.{arith}
use lib.Dec.{eqb}
use lib.ListN.{length, get_or, length-append}
use borrow.Author.Tests.{eq-eqb, eqb-true}
use Rattle.loops.proofs.TestLaws.{both, alike}
use Rattle.drainage.specs.Ways.{WorkList, down, passes}
use Rattle.loops.proofs.CountLaws.{bit}
use Rattle.drainage.proofs.TrailLaws.{home, trail, trail_own, trail_closed}
use Rattle.drainage.proofs.WorkListLaws.{Stands, stands, entry_of, own_or_before, receiver_lt, downstream, list_length}

module _ (recv : List ℕ) where
  down_more : (k c : ℕ) → down recv (suc k) c ≡ down recv k (get_or recv c 0)
  unfolding down
  down_more zero c = refl
  down_more (suc k) c = ap (λ (x : ℕ). get_or recv x 0) (down_more k c)

  down_own : (k c : ℕ) → get_or recv c 0 ≡ c → down recv k c ≡ c
  unfolding down
  down_own zero c e = refl
  down_own (suc k) c e = ap (λ (x : ℕ). get_or recv x 0) (down_own k c e) ∙ e

  pub passes_at : (m k j x : ℕ) → k < m → down recv k j ≡ x → passes recv m j x ≡ true
  unfolding passes
  passes_at zero k j x h e = let v : ⊥ = omega arith in absurd v
  passes_at (suc m) k j x h e = elim (eq-or-lt_of_le (le_of_suc-le-suc h)) [
    | inl q ↦ ap (λ (b : Bool). b || passes recv m j x) (eq-eqb (down recv m j) x (ap (λ (i : ℕ). down recv i j) (sym q) ∙ e))
    | inr l ↦ ap (λ (b : Bool). eqb (down recv m j) x || b) (passes_at m k j x l e) ∙ or-true (eqb (down recv m j) x)
  ]

  -- a cell on the way is some number of receivers down
  pub passes_down : (m j x : ℕ) → passes recv m j x ≡ true → (k : ℕ) × (down recv k j ≡ x)
  unfolding passes
  passes_down zero j x t = let z : ◌≡◌ {A = ℕ} 0 1 = ap bit t in let v : ⊥ = omega arith in absurd v
  passes_down (suc m) j x t = go (passes_down m j x) (eqb (down recv m j) x) refl t
    where
      go : (passes recv m j x ≡ true → (k : ℕ) × (down recv k j ≡ x)) → (b : Bool) → eqb (down recv m j) x ≡ b → eqb (down recv m j) x || passes recv m j x ≡ true → (k : ℕ) × (down recv k j ≡ x)
      go ih true e t = (m, eqb-true (down recv m j) x e)
      go ih false e t = ih (sym (ap (λ (b : Bool). b || passes recv m j x) e) ∙ t)

  pub home_down : (s : List ℕ) (j : ℕ) → (k : ℕ) × (home (λ c. get_or recv c 0) s j ≡ down recv k j)
  unfolding home down
  home_down [] j = (0, refl)
  home_down (c ∷ s) j = go (home_down s j) (eqb (home (λ c. get_or recv c 0) s j) c) refl
    where
      go : (k : ℕ) × (home (λ c. get_or recv c 0) s j ≡ down recv k j) → (b : Bool) → eqb (home (λ c. get_or recv c 0) s j) c ≡ b → (k : ℕ) × (home (λ c. get_or recv c 0) (c ∷ s) j ≡ down recv k j)
      go p true e = (
        suc p.0,
        ap (λ (b : Bool). cond b (get_or recv c 0) (home (λ c. get_or recv c 0) s j)) e
            ∙ ap (λ (x : ℕ). get_or recv x 0) (sym (eqb-true (home (λ c. get_or recv c 0) s j) c e) ∙ p.1),
      )
      go p false e = (p.0, ap (λ (b : Bool). cond b (get_or recv c 0) (home (λ c. get_or recv c 0) s j)) e ∙ p.1)

  trail_down : (s : List ℕ) (j x : ℕ) → trail (λ c. get_or recv c 0) s j x ≡ true → (k : ℕ) × (down recv k j ≡ x)
  unfolding trail down
  trail_down [] j x t = (0, eqb-true j x t)
  trail_down (c ∷ s) j x t = go (trail_down s j x) (home_down s j) (trail (λ c. get_or recv c 0) s j x) refl t
    where
      go : (trail (λ c. get_or recv c 0) s j x ≡ true → (k : ℕ) × (down recv k j ≡ x)) → (k : ℕ) × (home (λ c. get_or recv c 0) s j ≡ down recv k j) → (b : Bool) → trail (λ c. get_or recv c 0) s j x ≡ b
          → trail (λ c. get_or recv c 0) s j x || (eqb (home (λ c. get_or recv c 0) s j) c && eqb (get_or recv c 0) x) ≡ true → (k : ℕ) × (down recv k j ≡ x)
      go ih p true e t = ih e
      go ih p false e t =
          let q : (eqb (home (λ c. get_or recv c 0) s j) c ≡ true) × (eqb (get_or recv c 0) x ≡ true) = both (eqb (home (λ c. get_or recv c 0) s j) c) (eqb (get_or recv c 0) x) (sym (ap (λ (b : Bool). b || (eqb (home (λ c. get_or recv c 0) s j) c && eqb (get_or recv c 0) x)) e) ∙ t) in
          (suc p.0, ap (λ (y : ℕ). get_or recv y 0) (sym p.1 ∙ eqb-true (home (λ c. get_or recv c 0) s j) c q.0) ∙ eqb-true (get_or recv c 0) x q.1)

module _ {n : ℕ} {recv list : List ℕ} (w : WorkList n recv list) where
  -- every cell on the way down from an entry is reached in at most as many steps as there are entries before it
  short : (k : ℕ) (before : List ℕ) (c : ℕ) (rest : List ℕ) → list ≡ before ++ (c ∷ rest) → (i : ℕ) × (i ≤ length before) × (down recv i c ≡ down recv k c)
  short zero before c rest e = (0, omega arith, refl)
  short (suc k) before c rest e = elim (own_or_before w before c rest e) [
    | inl own ↦ (0, omega arith, down_own recv 0 c own ∙ sym (down_own recv (suc k) c own))
    | inr p ↦ go (stands (get_or recv c 0) before p) (short k)
  ]
    where
      go : (s : Stands (get_or recv c 0) before)
          → ((b : List ℕ) (x : ℕ) (t : List ℕ) → list ≡ b ++ (x ∷ t) → (i : ℕ) × (i ≤ length b) × (down recv i x ≡ down recv k x))
          → (i : ℕ) × (i ≤ length before) × (down recv i c ≡ down recv (suc k) c)
      go s ih =
          let at : list ≡ s.before ++ (get_or recv c 0 ∷ (s.rest ++ (c ∷ rest))) = e ∙ ap (λ (l : List ℕ). l ++ (c ∷ rest)) s.is ∙ append_assoc s.before (get_or recv c 0 ∷ s.rest) (c ∷ rest) in
          let q : (i : ℕ) × (i ≤ length s.before) × (down recv i (get_or recv c 0) ≡ down recv k (get_or recv c 0)) = ih s.before (get_or recv c 0) (s.rest ++ (c ∷ rest)) at in
          let long : length before ≡ length s.before + suc (length s.rest) = ap length s.is ∙ length-append s.before (get_or recv c 0 ∷ s.rest) in
          (suc q.0, omega (arith, long, q.1), down_more recv q.0 c ∙ q.2 ∙ sym (down_more recv k c))

  pub down_lt : (k j : ℕ) → j < n → down recv k j < n
  unfolding down
  down_lt zero j h = h
  down_lt (suc k) j h = receiver_lt w (down recv k j) (down_lt k j h)

  -- the trail of a cell's unit along the whole list is its way down
  pub trail_passes : (j x : ℕ) → j < n → trail (λ c. get_or recv c 0) list j x ≡ passes recv n j x
  unfolding down
  trail_passes j x h = alike (trail (λ c. get_or recv c 0) list j x) (passes recv n j x) there back
    where
      s : Stands j list
      s = entry_of w j h

      room : length s.before < n
      room = omega (arith, ap length s.is ∙ length-append s.before (j ∷ s.rest), list_length w)

      there : trail (λ c. get_or recv c 0) list j x ≡ true → passes recv n j x ≡ true
      there t =
          let q : (k : ℕ) × (down recv k j ≡ x) = trail_down recv list j x t in
          let i : (i : ℕ) × (i ≤ length s.before) × (down recv i j ≡ down recv q.0 j) = short q.0 s.before j s.rest s.is in
          passes_at recv n i.0 j x (omega (arith, i.1, room)) (i.2 ∙ q.1)

      walk : (k : ℕ) → trail (λ c. get_or recv c 0) list j (down recv k j) ≡ true
      walk zero = trail_own (λ c. get_or recv c 0) list j
      walk (suc k) = trail_closed (λ c. get_or recv c 0) list (downstream w) j (down recv k j) (omega (arith, w.once (down recv k j) (down_lt k j h))) (walk k)

      back : passes recv n j x ≡ true → trail (λ c. get_or recv c 0) list j x ≡ true
      back t = let q : (k : ℕ) × (down recv k j ≡ x) = passes_down recv n j x t in subst (λ (y : ℕ). trail (λ c. get_or recv c 0) list j y ≡ true) q.1 (walk q.0)
