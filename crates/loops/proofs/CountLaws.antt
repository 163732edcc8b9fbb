-- Laws of counts and sums over the numbers below m, and of how often a number stands in a list.
use Prim.Native.Nat.{ℕ, zero, suc, ◌+◌, ◌≤◌, ◌<◌}
use native.Mathlib.Numerals.{one-add}
use native.Mathlib.Omega.{arith}
use native.Mathlib.Nat.{eq-or-lt_of_le, le_of_suc-le-suc}
use mathlib.Core.Path.{◌≡◌, refl, sym, ap, ap₂, ◌∙◌, subst}
use mathlib.Core.Bool.{Bool, true, false, ◌&&◌, ◌||◌, cond}
use mathlib.Core.List.{List, [], ◌∷◌, ◌++◌, head-eq_of_cons-eq, tail-eq_of_cons-eq, cons-ne-nil}
use mathlib.Core.Logic.{◌⊎◌, inl, inr}
use lib.Dec.{eqb}
use lib.ListN.{length, get_or, take}
use lib.Seq.{take-suc}
use borrow.Author.Tests.{eq-eqb, ne_eqb, eqb-true, eqb-false}
use Rattle.loops.proofs.TestLaws.{either, same_or_not}
use Rattle.loops.specs.Counts.{one_if, times, count_below, sum_below}
use Rattle.loops.proofs.LoopLaws.{below_suc}

-- 1 for true
abbrev pub bit : Bool → ℕ
bit b = cond b 1 0

-- ---- counts
pub count_same : (m : ℕ) (p q : ℕ → Bool) → ((j : ℕ) → j < m → p j ≡ q j) → count_below m p ≡ count_below m q
unfolding count_below
count_same zero p q h = refl
count_same (suc m) p q h = ap₂ (λ (b : Bool) (k : ℕ). cond b 1 0 + k) (h m (omega arith)) (count_same m p q (λ j l. h j (omega arith)))

pub bit_le : (b : Bool) → bit b ≤ 1
bit_le true = omega arith
bit_le false = omega arith

pub count_le : (m : ℕ) (p : ℕ → Bool) → count_below m p ≤ m
unfolding count_below
count_le zero p = omega arith
count_le (suc m) p = omega (arith, count_le m p, bit_le (p m))

-- two tests that never hold together
apart : (a b : Bool) → a && b ≡ false → bit (a || b) ≡ bit a + bit b
apart true true e = let z : ◌≡◌ {A = ℕ} 1 0 = ap bit e in omega arith
apart true false e = refl
apart false true e = refl
apart false false e = refl

pub count_or : (m : ℕ) (p q : ℕ → Bool) → ((j : ℕ) → j < m → p j && q j ≡ false) → count_below m (λ j. p j || q j) ≡ count_below m p + count_below m q
unfolding count_below
count_or zero p q h = refl
count_or (suc m) p q h = omega (arith, apart (p m) (q m) (h m (omega arith)), count_or m p q (λ j l. h j (omega arith)))

pub count_none : (m : ℕ) (p : ℕ → Bool) → ((j : ℕ) → j < m → p j ≡ false) → count_below m p ≡ 0
unfolding count_below
count_none zero p h = refl
count_none (suc m) p h = omega (arith, ap bit (h m (omega arith)), count_none m p (λ j l. h j (omega arith)))

-- exactly one number is x
pub count_one : (m x : ℕ) → x < m → count_below m (λ j. eqb j x) ≡ 1
unfolding count_below
count_one zero x h = omega arith
count_one (suc m) x h = go (count_one m x) (eqb m x) refl
  where
    go : (x < m → count_below m (λ j. eqb j x) ≡ 1) → (b : Bool) → eqb m x ≡ b → cond (eqb m x) 1 0 + count_below m (λ j. eqb j x) ≡ 1
    go ih true e =
        let same : m ≡ x = eqb-true m x e in
        omega (arith, ap bit e, count_none m (λ j. eqb j x) (λ j l. ne_eqb j x (omega arith)))
    go ih false e =
        let other : m ≡ x → ⊥ = eqb-false m x e in
        let less : x < m = omega (arith, other) in
        omega (arith, ap bit e, ih less)

-- ---- sums
pub sum_same : (m : ℕ) (p : ℕ → Bool) (f g : ℕ → ℕ) → ((c : ℕ) → c < m → p c ≡ true → f c ≡ g c) → sum_below m p f ≡ sum_below m p g
unfolding sum_below
sum_same zero p f g h = refl
sum_same (suc m) p f g h = ap₂ (λ (x y : ℕ). x + y) (go (p m) refl) (sum_same m p f g (λ c l. h c (omega arith)))
  where
    go : (b : Bool) → p m ≡ b → cond (p m) (f m) 0 ≡ cond (p m) (g m) 0
    go true e = ap (cond (p m) (f m)) refl ∙ ap (λ (x : ℕ). cond (p m) x 0) (h m (omega arith) e)
    go false e = ap (λ (b : Bool). cond b (f m) 0) e ∙ sym (ap (λ (b : Bool). cond b (g m) 0) e)

-- tests that agree pick the same cells
pub sum_by : (m : ℕ) (p q : ℕ → Bool) (f : ℕ → ℕ) → ((c : ℕ) → c < m → p c ≡ q c) → sum_below m p f ≡ sum_below m q f
unfolding sum_below
sum_by zero p q f h = refl
sum_by (suc m) p q f h = ap₂ (λ (b : Bool) (x : ℕ). cond b (f m) 0 + x) (h m (omega arith)) (sum_by m p q f (λ c l. h c (omega arith)))

pub sum_zero : (m : ℕ) (p : ℕ → Bool) → sum_below m p (λ c. 0) ≡ 0
unfolding sum_below
sum_zero zero p = refl
sum_zero (suc m) p = ap₂ (λ (x y : ℕ). x + y) (either (λ (x : ℕ). x ≡ 0) (p m) 0 0 refl refl) (sum_zero m p)

-- one more at each c that equals x, of the cells that p holds of: one more in all where p holds of x
pub sum_off : (m : ℕ) (p : ℕ → Bool) (x : ℕ) (f : ℕ → ℕ) → m ≤ x → sum_below m p (λ c. bit (eqb x c) + f c) ≡ sum_below m p f
sum_off m p x f h = sum_same m p (λ c. bit (eqb x c) + f c) f (λ c l e. omega (arith, ap bit (ne_eqb x c (omega arith))))

pub sum_on : (m : ℕ) (p : ℕ → Bool) (x : ℕ) (f : ℕ → ℕ) → x < m → p x ≡ true → sum_below m p (λ c. bit (eqb x c) + f c) ≡ 1 + sum_below m p f
unfolding sum_below
sum_on zero p x f h e = omega arith
sum_on (suc m) p x f h e = go (λ l. sum_on m p x f l e) (eqb x m) refl
  where
    at : p m ≡ true → (k : ℕ) → cond (p m) (k + f m) 0 ≡ k + cond (p m) (f m) 0
    at t k = ap (λ (b : Bool). cond b (k + f m) 0) t ∙ sym (ap (λ (b : Bool). k + cond b (f m) 0) t)

    go : (x < m → sum_below m p (λ c. bit (eqb x c) + f c) ≡ 1 + sum_below m p f) → (b : Bool) → eqb x m ≡ b → cond (p m) (bit (eqb x m) + f m) 0 + sum_below m p (λ c. bit (eqb x c) + f c) ≡ 1 + (cond (p m) (f m) 0 + sum_below m p f)
    go ih true t =
        let same : x ≡ m = eqb-true x m t in
        let held : p m ≡ true = subst (λ (c : ℕ). p c ≡ true) same e in
        omega (arith, ap bit t, at held (bit (eqb x m)), sum_off m p x f (omega arith))
    go ih false t =
        let other : x ≡ m → ⊥ = eqb-false x m t in
        let none : cond (p m) (bit (eqb x m) + f m) 0 ≡ cond (p m) (f m) 0 = let z : bit (eqb x m) + f m ≡ f m = omega (arith, ap bit t) in ap (λ (k : ℕ). cond (p m) k 0) z in
        omega (arith, none, ih (omega (arith, other)))

-- numbers of at most 1 each
pub sum_bound : (n : ℕ) (f : ℕ → ℕ) → ((c : ℕ) → c < n → f c ≤ 1) → sum_below n (λ c. true) f ≤ n
unfolding sum_below
sum_bound zero f h = omega arith
sum_bound (suc n) f h = omega (arith, h n (omega arith), sum_bound n f (λ c l. h c (omega arith)))

-- numbers f 0 … f (k - 1) below m that p holds of, counted by their value: k in all
pub sum_of_counts : (m : ℕ) (p : ℕ → Bool) (k : ℕ) (f : ℕ → ℕ) → ((j : ℕ) → j < k → f j < m) → ((j : ℕ) → j < k → p (f j) ≡ true)
    → sum_below m p (λ c. count_below k (λ j. eqb (f j) c)) ≡ k
unfolding count_below
sum_of_counts m p zero f below held = sum_zero m p
sum_of_counts m p (suc k) f below held =
    sum_on m p (f k) (λ c. count_below k (λ j. eqb (f j) c)) (below k (omega arith)) (held k (omega arith))
    ∙ ap (λ (x : ℕ). 1 + x) (sum_of_counts m p k f (λ j l. below j (omega arith)) (λ j l. held j (omega arith)))
    ∙ one-add k

-- ---- how often a cell stands in a list
pub times_append : (c : ℕ) (s t : List ℕ) → times c (s ++ t) ≡ times c s + times c t
unfolding times
times_append c [] t = let e : times c t ≡ 0 + times c t = omega arith in e
times_append c (a ∷ s) t = omega (arith, times_append c s t)

pub times_here : (c : ℕ) (s : List ℕ) → times c (c ∷ s) ≡ 1 + times c s
unfolding times
times_here c s = omega (arith, ap bit (eq-eqb c c refl))

-- ---- `one_if` counts 0 or 1
pub one_same : (a b : ℕ) → a ≡ b → one_if a b ≡ 1
one_same a b e = ap (λ t. cond t 1 0) (eq-eqb a b e)

pub one_other : (a b : ℕ) → (a ≡ b → ⊥) → one_if a b ≡ 0
one_other a b d = ap (λ t. cond t 1 0) (ne_eqb a b d)

pub one_bound : (a b : ℕ) → one_if a b ≤ 1
one_bound a b = bit_le (eqb a b)

pub one_eq : (a b : ℕ) → 0 < one_if a b → a ≡ b
one_eq a b h = elim (same_or_not a b) [ inl e ↦ e | inr d ↦ absurd (none (one_other a b d)) ]
  where
    none : one_if a b ≡ 0 → ⊥
    none e = omega arith

module _ (p q : ℕ → Bool) where
  -- one more cell passes the test
  pub count_more :
      (n j : ℕ) → j < n → p j ≡ false → q j ≡ true → ((c : ℕ) → (c ≡ j → ⊥) → p c ≡ q c) → count_below n q ≡ suc (count_below n p)
  unfolding count_below
  count_more zero j l e f h = omega arith
  count_more (suc n) j l e f h = elim (eq-or-lt_of_le (le_of_suc-le-suc l)) [
    | inl i ↦ omega (
      arith,
      ap bit (subst (λ c. p c ≡ false) i e),
      ap bit (subst (λ c. q c ≡ true) i f),
      count_same n p q (λ c m. h c (below c m i)),
    )
    | inr m ↦ omega (arith, ap bit (h n (above m)), count_more n j m e f h)
  ]
    where
      below : (c : ℕ) → c < n → j ≡ n → c ≡ j → ⊥
      below c m i k = omega arith

      above : j < n → n ≡ j → ⊥
      above m k = omega arith

  -- no cell passes both tests
  pub count_apart : (n : ℕ) → ((c : ℕ) → c < n → p c ≡ true → q c ≡ false) → count_below n p + count_below n q ≤ n
  count_apart n h = omega (arith, count_or n p q (λ c l. never (p c) (q c) (h c l)), count_le n (λ c. p c || q c))
    where
      never : (a b : Bool) → (a ≡ true → b ≡ false) → a && b ≡ false
      never true b d = d refl
      never false b d = refl

module _ (p : ℕ → Bool) where
  pub count_all : (n : ℕ) → count_below n p ≡ n → (c : ℕ) → c < n → p c ≡ true
  unfolding count_below
  count_all zero h = λ c l. let f : ⊥ = omega arith in absurd f
  count_all (suc n) h = go (p n) refl (count_le n p) (count_all n) h
    where
      go :
          (a : Bool) → p n ≡ a → count_below n p ≤ n → (count_below n p ≡ n → (c : ℕ) → c < n → p c ≡ true)
          → cond a 1 0 + count_below n p ≡ suc n → (c : ℕ) → c < suc n → p c ≡ true
      go true e b r h = below_suc (λ c. p c ≡ true) n (r (omega arith)) e
      go false e b r h = let f : ⊥ = omega arith in absurd f

  pub count_full : (n : ℕ) → ((c : ℕ) → c < n → p c ≡ true) → count_below n p ≡ n
  unfolding count_below
  count_full zero h = refl
  count_full (suc n) h = omega (arith, ap bit (h n (omega arith)), count_full n (λ c l. h c (omega arith)))

  pub count_some : (n c : ℕ) → c < n → p c ≡ true → 0 < count_below n p
  unfolding count_below
  count_some zero c l e = omega arith
  count_some (suc n) c l e = elim (eq-or-lt_of_le (le_of_suc-le-suc l)) [
    | inl i ↦ omega (arith, ap bit (subst (λ c. p c ≡ true) i e))
    | inr m ↦ omega (arith, count_some n c m e)
  ]

pub times_last : (c a : ℕ) (l : List ℕ) → times c (l ++ (a ∷ [])) ≡ times c l + one_if a c
unfolding times
times_last c a l = times_append c l (a ∷ []) ∙ omega arith

-- among the first entries, with one entry more
pub times_more : (c i : ℕ) (l : List ℕ) → i < length l → times c (take (suc i) l) ≡ times c (take i l) + one_if (get_or l i 0) c
times_more c i l h = ap (times c) (take-suc l i 0 h) ∙ times_last c (get_or l i 0) (take i l)

-- a list with one cell more, split at a cell: at that last one, or earlier
pub record Earlier (l before : List ℕ) (c : ℕ) : Type 0 where
  pub rest : List ℕ
  pub splits : l ≡ before ++ (c ∷ rest)

pub record Last (l before : List ℕ) (a c : ℕ) : Type 0 where
  pub cell : c ≡ a
  pub whole : before ≡ l

pub split_last : (l : List ℕ) (a : ℕ) (before : List ℕ) (c : ℕ) (rest : List ℕ) → l ++ (a ∷ []) ≡ before ++ (c ∷ rest) → Last l before a c ⊎ Earlier l before c
split_last [] a [] c rest e = inl (record { cell = sym (head-eq_of_cons-eq e); whole = refl })
split_last [] a (b ∷ []) c rest e = absurd (cons-ne-nil c rest (sym (tail-eq_of_cons-eq e)))
split_last [] a (b ∷ d ∷ before) c rest e = absurd (cons-ne-nil d (before ++ (c ∷ rest)) (sym (tail-eq_of_cons-eq e)))
split_last (x ∷ l) a [] c rest e = inr (record { rest = l; splits = ap (λ k. k ∷ l) (head-eq_of_cons-eq e) })
split_last (x ∷ l) a (b ∷ before) c rest e = elim (split_last l a before c rest (tail-eq_of_cons-eq e)) [
  | inl h ↦ inl (record { cell = h.cell; whole = ap₂ ◌∷◌ (sym (head-eq_of_cons-eq e)) h.whole })
  | inr h ↦ inr (record { rest = h.rest; splits = ap₂ ◌∷◌ (head-eq_of_cons-eq e) h.splits })
]
