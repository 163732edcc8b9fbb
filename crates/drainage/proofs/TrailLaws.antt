-- The unit that each cell puts into a backward pass along a work list, followed through the pass: `home` is where it lies after the cells of a
-- suffix of the list have passed theirs on, `trail` the cells where it has been. A cell that has not passed yet stands in the trail exactly if
-- the unit lies there.
use Prim.Native.Nat.{ℕ, zero, suc, ◌<◌}
use mathlib.Core.Path.{◌≡◌, refl, sym, ap, ap₂, ◌∙◌, subst}
use mathlib.Core.Bool.{Bool, true, false, ◌&&◌, ◌||◌, cond, or-true, or-false}
use mathlib.Core.List.{List, [], ◌∷◌, ◌++◌}
use native.Mathlib.Omega.{arith}
use lib.Dec.{eqb}
use borrow.Author.Tests.{eq-eqb, ne_eqb, eqb-true, eqb-false}
use Rattle.loops.proofs.TestLaws.{both, alike}
use Rattle.loops.specs.Counts.{times}
use Rattle.loops.proofs.CountLaws.{bit}

module _ (r : ℕ → ℕ) where
  unfoldable pub home : List ℕ → ℕ → ℕ
  home [] j = j
  home (c ∷ s) j = cond (eqb (home s j) c) (r c) (home s j)

  unfoldable pub trail : List ℕ → ℕ → ℕ → Bool
  unfolding home
  trail [] j x = eqb j x
  trail (c ∷ s) j x = trail s j x || (eqb (home s j) c && eqb (r c) x)

-- c does not stand in c' ∷ s: it is another cell, and not in s
not_head : (c a : ℕ) (s : List ℕ) → times c (a ∷ s) ≡ 0 → eqb a c ≡ false
unfolding times
not_head c a s h = go (eqb a c) refl
  where
    go : (b : Bool) → eqb a c ≡ b → b ≡ false
    go true e = let z : bit (eqb a c) ≡ 1 = ap bit e in let w : ⊥ = omega arith in absurd w
    go false e = refl

not_tail : (c a : ℕ) (s : List ℕ) → times c (a ∷ s) ≡ 0 → times c s ≡ 0
unfolding times
not_tail c a s h = omega arith

-- a suffix of a list in which every cell stands after the other cell that it drains into: then a receiver does not stand behind its cell
pub record Downstream (r : ℕ → ℕ) (s : List ℕ) : Type 0 where
  pub once : (before : List ℕ) (c : ℕ) (rest : List ℕ) → s ≡ before ++ (c ∷ rest) → times c rest ≡ 0
  pub behind : (before : List ℕ) (c : ℕ) (rest : List ℕ) → s ≡ before ++ (c ∷ rest) → times (r c) rest ≡ 0

pub downstream_tail : (r : ℕ → ℕ) (a : ℕ) (s : List ℕ) → Downstream r (a ∷ s) → Downstream r s
downstream_tail r a s d =
    record { once = λ b c t e. d.once (a ∷ b) c t (ap (λ l. a ∷ l) e); behind = λ b c t e. d.behind (a ∷ b) c t (ap (λ l. a ∷ l) e) }

module _ (r : ℕ → ℕ) where
  -- where the unit lies is in its trail
  pub home_in : (s : List ℕ) (j : ℕ) → trail r s j (home r s j) ≡ true
  unfolding home trail
  home_in [] j = eq-eqb j j refl
  home_in (c ∷ s) j = go (home_in s j) (eqb (home r s j) c) refl
    where
      go : trail r s j (home r s j) ≡ true → (b : Bool) → eqb (home r s j) c ≡ b
          → trail r s j (cond (eqb (home r s j) c) (r c) (home r s j)) || (eqb (home r s j) c && eqb (r c) (cond (eqb (home r s j) c) (r c) (home r s j))) ≡ true
      go ih true e =
          ap (λ (b : Bool). trail r s j (cond b (r c) (home r s j)) || (b && eqb (r c) (cond b (r c) (home r s j)))) e
          ∙ ap (λ (b : Bool). trail r s j (r c) || b) (eq-eqb (r c) (r c) refl)
          ∙ or-true (trail r s j (r c))
      go ih false e =
          ap (λ (b : Bool). trail r s j (cond b (r c) (home r s j)) || (b && eqb (r c) (cond b (r c) (home r s j)))) e
          ∙ ap (λ (b : Bool). b || false) ih

  -- a cell that has not passed its unit on yet
  pub trail_home : (s : List ℕ) (j x : ℕ) → times x s ≡ 0 → trail r s j x ≡ eqb (home r s j) x
  unfolding home trail
  trail_home [] j x n = refl
  trail_home (c ∷ s) j x n = go (trail_home s j x (not_tail x c s n)) (eqb (home r s j) c) refl
    where
      go : trail r s j x ≡ eqb (home r s j) x → (b : Bool) → eqb (home r s j) c ≡ b
          → trail r s j x || (eqb (home r s j) c && eqb (r c) x) ≡ eqb (cond (eqb (home r s j) c) (r c) (home r s j)) x
      go ih true e =
          let at : home r s j ≡ c = eqb-true (home r s j) c e in
          let off : trail r s j x ≡ false = ih ∙ ap (λ (y : ℕ). eqb y x) at ∙ not_head x c s n in
          ap₂ (λ (a b : Bool). a || (b && eqb (r c) x)) off e ∙ sym (ap (λ (b : Bool). eqb (cond b (r c) (home r s j)) x) e)
      go ih false e =
          ap₂ (λ (a b : Bool). a || (b && eqb (r c) x)) ih e ∙ or-false (eqb (home r s j) x) ∙ sym (ap (λ (b : Bool). eqb (cond b (r c) (home r s j)) x) e)

or_split : (a b : Bool) → a || b ≡ true → (P : Type 0) → (a ≡ true → P) → (b ≡ true → P) → P
or_split true b e P f g = f refl
or_split false b e P f g = g e

or_l : (a b : Bool) → a ≡ true → a || b ≡ true
or_l a b e = ap (λ (x : Bool). x || b) e

or_r : (a b : Bool) → b ≡ true → a || b ≡ true
or_r true b e = refl
or_r false b e = e

-- c stands in a ∷ s, and not in s: it is a
head_is : (c a : ℕ) (s : List ℕ) → 0 < times c (a ∷ s) → times c s ≡ 0 → a ≡ c
unfolding times
head_is c a s p n = go (eqb a c) refl
  where
    go : (b : Bool) → eqb a c ≡ b → a ≡ c
    go true e = eqb-true a c e
    go false e = let z : bit (eqb a c) ≡ 0 = ap bit e in let w : ⊥ = omega arith in absurd w

-- a number that is 0 or not
zero_or : (n : ℕ) (P : Type 0) → (n ≡ 0 → P) → (0 < n → P) → P
zero_or zero P f g = f refl
zero_or (suc n) P f g = g (omega arith)

module _ (r : ℕ → ℕ) where
  -- a trail only grows
  pub trail_more : (c : ℕ) (s : List ℕ) (j x : ℕ) → trail r s j x ≡ true → trail r (c ∷ s) j x ≡ true
  unfolding trail
  trail_more c s j x e = or_l (trail r s j x) (eqb (home r s j) c && eqb (r c) x) e

  pub trail_own : (s : List ℕ) (j : ℕ) → trail r s j j ≡ true
  unfolding trail
  trail_own [] j = eq-eqb j j refl
  trail_own (c ∷ s) j = or_l (trail r s j j) (eqb (home r s j) c && eqb (r c) j) (trail_own s j)

  -- the trail goes on from every cell that has passed its unit on
  pub trail_closed : (s : List ℕ) → Downstream r s → (j y : ℕ) → 0 < times y s → trail r s j y ≡ true → trail r s j (r y) ≡ true
  unfolding times trail
  trail_closed [] d j y p t = let w : ⊥ = omega arith in absurd w
  trail_closed (c ∷ s) d j y p t = go (trail_closed s (downstream_tail r c s d) j y) (d.once [] c s refl) (d.behind [] c s refl)
    where
      passed : home r s j ≡ c → trail r (c ∷ s) j (r c) ≡ true
      passed at = or_r (trail r s j (r c)) (eqb (home r s j) c && eqb (r c) (r c)) (ap₂ (λ (a b : Bool). a && b) (eq-eqb (home r s j) c at) (eq-eqb (r c) (r c) refl))

      go : (0 < times y s → trail r s j y ≡ true → trail r s j (r y) ≡ true) → times c s ≡ 0 → times (r c) s ≡ 0 → trail r (c ∷ s) j (r y) ≡ true
      go ih once behind =
          or_split (trail r s j y) (eqb (home r s j) c && eqb (r c) y) t (trail r (c ∷ s) j (r y) ≡ true)
          (λ old.
          zero_or (times y s) (trail r (c ∷ s) j (r y) ≡ true)
          (λ none.
          let same : c ≡ y = head_is y c s p none in
          let at : home r s j ≡ y = eqb-true (home r s j) y (sym (trail_home r s j y none) ∙ old) in
          subst (λ (x : ℕ). trail r (c ∷ s) j (r x) ≡ true) same (passed (at ∙ sym same)))
          (λ some. trail_more c s j (r y) (ih some old)))
          (λ new.
          let moved : r c ≡ y = eqb-true (r c) y (both (eqb (home r s j) c) (eqb (r c) y) new).1 in
          let none : times y s ≡ 0 = subst (λ (x : ℕ). times x s ≡ 0) moved behind in
          let same : c ≡ y = head_is y c s p none in
          subst (λ (x : ℕ). trail r (c ∷ s) j x ≡ true) (ap r same) (passed (eqb-true (home r s j) c (both (eqb (home r s j) c) (eqb (r c) y) new).0)))

  -- a unit that lies at a cell which has passed: the cell is its own receiver
  pub home_own : (s : List ℕ) → Downstream r s → (j : ℕ) → 0 < times (home r s j) s → r (home r s j) ≡ home r s j
  unfolding times home
  home_own [] d j p = let w : ⊥ = omega arith in absurd w
  home_own (c ∷ s) d j p = go (home_own s (downstream_tail r c s d) j) (d.behind [] c s refl) (eqb (home r s j) c) refl
    where
      go : (0 < times (home r s j) s → r (home r s j) ≡ home r s j) → times (r c) s ≡ 0 → (b : Bool) → eqb (home r s j) c ≡ b → r (home r (c ∷ s) j) ≡ home r (c ∷ s) j
      go ih behind true e =
          let now : home r (c ∷ s) j ≡ r c = ap (λ (b : Bool). cond b (r c) (home r s j)) e in
          let same : c ≡ r c = head_is (r c) c s (subst (λ (x : ℕ). 0 < times x (c ∷ s)) now p) behind in
          ap r now ∙ ap r (sym same) ∙ sym now
      go ih behind false e =
          let now : home r (c ∷ s) j ≡ home r s j = ap (λ (b : Bool). cond b (r c) (home r s j)) e in
          let here : 0 < times (home r s j) (c ∷ s) = subst (λ (x : ℕ). 0 < times x (c ∷ s)) now p in
          let at : ℕ = home r s j in
          let off : bit (eqb c at) ≡ 0 = ap bit (ne_eqb c at (λ q. eqb-false (home r s j) c e (sym q))) in
          ap r now ∙ ih (omega (arith, off, here)) ∙ sym now

  -- at a cell that is its own receiver a unit stays
  pub trail_stays : (s : List ℕ) (j c : ℕ) → r c ≡ c → trail r s j c ≡ eqb (home r s j) c
  unfolding home trail
  trail_stays s j c own = alike (trail r s j c) (eqb (home r s j) c) (stays s) (λ e. subst (λ (x : ℕ). trail r s j x ≡ true) (eqb-true (home r s j) c e) (home_in r s j))
    where
      stays : (s : List ℕ) → trail r s j c ≡ true → eqb (home r s j) c ≡ true
      stays [] e = e
      stays (a ∷ s) e = go (stays s) (eqb (home r s j) a) refl
        where
          go : (trail r s j c ≡ true → eqb (home r s j) c ≡ true) → (b : Bool) → eqb (home r s j) a ≡ b → eqb (cond (eqb (home r s j) a) (r a) (home r s j)) c ≡ true
          go ih true t =
              ap (λ (b : Bool). eqb (cond b (r a) (home r s j)) c) t
              ∙ or_split (trail r s j c) (eqb (home r s j) a && eqb (r a) c) e (eqb (r a) c ≡ true)
              (λ old. ap (λ (x : ℕ). eqb (r x) c) (sym (eqb-true (home r s j) a t) ∙ eqb-true (home r s j) c (ih old)) ∙ eq-eqb (r c) c own)
              (λ new. (both (eqb (home r s j) a) (eqb (r a) c) new).1)
          go ih false t =
              ap (λ (b : Bool). eqb (cond b (r a) (home r s j)) c) t
              ∙ or_split (trail r s j c) (eqb (home r s j) a && eqb (r a) c) e (eqb (home r s j) c ≡ true) ih
              (λ new. let z : eqb (home r s j) a ≡ true = (both (eqb (home r s j) a) (eqb (r a) c) new).0 in let w : ◌≡◌ {A = ℕ} 0 1 = ap bit (sym t ∙ z) in let v : ⊥ = omega arith in absurd v)
