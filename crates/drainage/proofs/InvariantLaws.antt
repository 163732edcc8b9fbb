-- What holds of the flood between any two pushes, over bare functions: status (0 not pushed yet, 1 waiting, 2 left), the numbers of heights and
-- spill heights, discoverers, and the order so far. `leaver` left last, and `handled` of its eight directions are done. The two changes of a flood,
-- a push and a leaving, keep it.
use Prim.Native.Nat.{ℕ, ◌≤◌, ◌<◌, max}
use mathlib.Core.Path.{◌≡◌, refl, sym, ap, ◌∙◌}
use mathlib.Core.Bool.{Bool, true, false, cond}
use mathlib.Core.Logic.{inl, inr}
use mathlib.Core.List.{List, [], ◌∷◌, ◌++◌}
use native.Mathlib.Omega.{arith}
use lib.Dec.{eqb}
use lib.ListN.{length, length-append}
use borrow.Author.Tests.{ne_eqb}
use Rattle.drainage.specs.Ground.{Ground}
use Rattle.loops.specs.Counts.{one_if, times, count_below}
use Rattle.drainage.specs.Chains.{Neighbours, Chain, ends, crest}
use Rattle.loops.proofs.CountLaws.{count_none, times_append, one_same, one_other, one_eq}
use Rattle.loops.proofs.TestLaws.{lower_or_not}

-- a flood as functions
pub record View : Type 0 where
  pub status : ℕ → ℕ
  pub number : ℕ → ℕ
  pub discoverer : ℕ → ℕ
  pub order : List ℕ

times_nil : (c : ℕ) → times c [] ≡ 0
unfolding times
times_nil c = refl

-- status of a cell at the start
abbrev pub one_of : Bool → ℕ
one_of base = cond base 1 0

module _ (g : Ground) (height : ℕ → ℕ) where
  -- f has left and found c, which lies level with the greater of its own height and f
  pub record Found (s : View) (c f : ℕ) : Type 0 where
    pub inside : f < g.cells
    pub left : s.status f ≡ 2
    pub near : Neighbours g c f
    pub level : s.number c ≡ max (height c) (s.number f)

  -- m is pushed, and no higher than a leads to
  pub record Reached (s : View) (a m : ℕ) : Type 0 where
    pub pushed : 1 ≤ s.status m
    pub level : s.number m ≤ max (height m) (s.number a)

  -- a chain from c whose crest is the number of c
  pub record Way (s : View) (c : ℕ) : Type 0 where
    pub chain : Chain g c
    pub level : crest height chain ≡ s.number c

  -- c left after its discoverer and after every pushed cell that is lower
  pub record After (s : View) (before : List ℕ) (c : ℕ) : Type 0 where
    pub discoverer : (s.discoverer c ≡ c → ⊥) → 0 < times (s.discoverer c) before
    pub lower : (m : ℕ) → m < g.cells → 1 ≤ s.status m → s.number m < s.number c → 0 < times m before

  pub record Flooding (s : View) (leaver handled : ℕ) : Type 0 where
    pub known : (c : ℕ) → c < g.cells → s.status c ≤ 2
    pub base_pushed : (c : ℕ) → c < g.cells → g.base c ≡ true → 1 ≤ s.status c
    pub base_number : (c : ℕ) → c < g.cells → g.base c ≡ true → s.number c ≡ height c
    pub base_discoverer : (c : ℕ) → c < g.cells → g.base c ≡ true → s.discoverer c ≡ c
    pub found : (c : ℕ) → c < g.cells → 1 ≤ s.status c → g.base c ≡ false → Found s c (s.discoverer c)
    pub reached :
        (a e : ℕ) → a < g.cells → s.status a ≡ 2 → 1 ≤ e → e ≤ 8 → g.near a e < g.cells → (a ≡ leaver → e ≤ handled)
        → Reached s a (g.near a e)
    pub rising : (a b : ℕ) → a < g.cells → b < g.cells → s.status a ≡ 2 → s.status b ≡ 1 → s.number a ≤ s.number b
    pub top : (a : ℕ) → a < g.cells → s.status a ≡ 2 → s.number a ≤ s.number leaver
    pub once : (c : ℕ) → c < g.cells → times c s.order ≡ one_if (s.status c) 2
    pub only : (c : ℕ) → g.cells ≤ c → times c s.order ≡ 0
    pub count : count_below g.cells (λ c. eqb (s.status c) 2) ≡ length s.order
    pub after : (before : List ℕ) (c : ℕ) (rest : List ℕ) → s.order ≡ before ++ (c ∷ rest) → After s before c
    pub way : (c : ℕ) → c < g.cells → 1 ≤ s.status c → Way s c

  -- c leaves: t is the flood s after it
  pub record Leaves (s t : View) (c : ℕ) : Type 0 where
    pub here : t.status c ≡ 2
    pub elsewhere : (j : ℕ) → (j ≡ c → ⊥) → t.status j ≡ s.status j
    pub same_number : (j : ℕ) → t.number j ≡ s.number j
    pub same_discoverer : (j : ℕ) → t.discoverer j ≡ s.discoverer j
    pub more : t.order ≡ s.order ++ (c ∷ [])

  -- c pushes m: t is the flood s after it
  pub record Pushes (s t : View) (c m : ℕ) : Type 0 where
    pub here : t.status m ≡ 1
    pub here_number : t.number m ≡ max (height m) (s.number c)
    pub here_discoverer : t.discoverer m ≡ c
    pub elsewhere : (j : ℕ) → (j ≡ m → ⊥) → t.status j ≡ s.status j
    pub else_number : (j : ℕ) → (j ≡ m → ⊥) → t.number j ≡ s.number j
    pub else_discoverer : (j : ℕ) → (j ≡ m → ⊥) → t.discoverer j ≡ s.discoverer j
    pub same_order : t.order ≡ s.order

  ends_crest : (c : ℕ) (e : g.base c ≡ true) → crest {g = g} height (ends c e) ≡ height c
  unfolding crest
  ends_crest c e = refl

  -- a cell of the order has left
  pub in_order :
      (s : View) (leaver handled : ℕ) → Flooding s leaver handled → (before : List ℕ) (c : ℕ) (rest : List ℕ) → s.order ≡ before ++ (c ∷ rest)
      → (c < g.cells) × (s.status c ≡ 2)
  unfolding times
  in_order s leaver handled f before c rest e = elim (lower_or_not c g.cells) [
    | inl l ↦ (l, one_eq (s.status c) 2 (omega (arith, f.once c l, stands)))
    | inr l ↦ let z : ⊥ = omega (arith, f.only c l, stands) in absurd z
  ]
    where
      stands : 0 < times c s.order
      stands = omega (arith, ap (times c) e, times_append c before (c ∷ rest), one_same c c refl)

  -- a cell that has left stands in the order
  pub left_once :
      (s : View) (leaver handled : ℕ) → Flooding s leaver handled → (c : ℕ) → c < g.cells → s.status c ≡ 2 → 0 < times c s.order
  left_once s leaver handled f c l e = omega (arith, f.once c l, one_same (s.status c) 2 e)

  -- a pushed cell lies no higher than the last leaver leads to, if it is near it
  pub pushed_level :
      (s : View) (leaver handled : ℕ) → Flooding s leaver handled → (m : ℕ) → m < g.cells → 1 ≤ s.status m
      → s.number m ≤ max (height m) (s.number leaver)
  pushed_level s leaver handled f m l p = go (g.base m) refl
    where
      go : (b : Bool) → g.base m ≡ b → s.number m ≤ max (height m) (s.number leaver)
      go true e = omega (arith, f.base_number m l e)
      go false e =
          let d : Found s m (s.discoverer m) = f.found m l p e in
          omega (arith, d.level, f.top (s.discoverer m) d.inside d.left)

  -- a flood begins: base cells wait with their own heights and are their own discoverers
  pub record Begins (s : View) : Type 0 where
    pub status : (c : ℕ) → c < g.cells → s.status c ≡ one_of (g.base c)
    pub number : (c : ℕ) → s.number c ≡ height c
    pub discoverer : (c : ℕ) → c < g.cells → s.discoverer c ≡ c
    pub order : s.order ≡ []

  module _ (s : View) (b : Begins s) where
    begins_waits : (c : ℕ) → c < g.cells → g.base c ≡ true → s.status c ≡ 1
    begins_waits c l e = b.status c l ∙ ap one_of e

    begins_not : (c : ℕ) → c < g.cells → g.base c ≡ false → s.status c ≡ 0
    begins_not c l e = b.status c l ∙ ap one_of e

    begins_low : (c : ℕ) → c < g.cells → s.status c ≤ 1
    begins_low c l = go (g.base c) refl
      where
        go : (t : Bool) → g.base c ≡ t → s.status c ≤ 1
        go true e = omega (arith, begins_waits c l e)
        go false e = omega (arith, begins_not c l e)

    begins_none : (c : ℕ) → c < g.cells → s.status c ≡ 2 → ⊥
    begins_none c l e = omega (arith, begins_low c l)

    begins_way : (c : ℕ) → c < g.cells → 1 ≤ s.status c → Way s c
    begins_way c l p = go (g.base c) refl
      where
        go : (t : Bool) → g.base c ≡ t → Way s c
        go true e = record { chain = ends c e; level = ends_crest c e ∙ sym (b.number c) }
        go false e = let z : ⊥ = omega (arith, begins_not c l e) in absurd z

    pub begins : Flooding s 0 8
    begins = record {
      known = λ c l. omega (arith, begins_low c l);
      base_pushed = λ c l e. omega (arith, begins_waits c l e);
      base_number = λ c l e. b.number c;
      base_discoverer = λ c l e. b.discoverer c l;
      found = λ c l p e. let z : ⊥ = omega (arith, begins_not c l e) in absurd z;
      reached = λ a e l p lo hi inn d. absurd (begins_none a l p);
      rising = λ a c l m p q. absurd (begins_none a l p);
      top = λ a l p. absurd (begins_none a l p);
      once = λ c l. nowhere c ∙ sym (one_other (s.status c) 2 (begins_none c l));
      only = λ c l. nowhere c;
      count =
          count_none g.cells (λ c. eqb (s.status c) 2) (λ c l. ne_eqb (s.status c) 2 (begins_none c l)) ∙ ap length (sym b.order);
      after = λ before c rest e. let z : ⊥ = omega (arith, ap length (sym b.order ∙ e), length-append before (c ∷ rest)) in absurd z;
      way = begins_way;
    }
      where
        nowhere : (c : ℕ) → times c s.order ≡ 0
        nowhere c = ap (times c) b.order ∙ times_nil c
