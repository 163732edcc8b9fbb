-- A cell that leaves keeps what holds of a flood.
use Prim.Native.Nat.{ℕ, ◌≤◌, ◌<◌, max}
use mathlib.Core.Path.{◌≡◌, refl, sym, ap, ◌∙◌, subst, subst₂}
use mathlib.Core.Bool.{Bool, true, false}
use mathlib.Core.Logic.{◌⊎◌, inl, inr}
use mathlib.Core.List.{List, [], ◌∷◌, ◌++◌}
use native.Mathlib.Omega.{arith}
use lib.Dec.{eqb}
use lib.ListN.{length, length-append}
use borrow.Author.Tests.{eq-eqb, ne_eqb}
use Rattle.drainage.specs.Ground.{Ground}
use Rattle.loops.specs.Counts.{one_if, times, count_below}
use Rattle.loops.proofs.TestLaws.{same_or_not}
use Rattle.loops.proofs.CountLaws.{one_same, one_other, count_more, times_last, split_last}
use Rattle.drainage.proofs.InvariantLaws.{View, Found, Reached, Way, After, Flooding, Leaves, left_once}

module _ (g : Ground) (height : ℕ → ℕ) where
  module _ (s t : View) (last c : ℕ) (f : Flooding g height s last 8) (inside : c < g.cells) (waiting : s.status c ≡ 1)
      (least : (b : ℕ) → b < g.cells → s.status b ≡ 1 → s.number c ≤ s.number b) (ch : Leaves g height s t c) where
    -- who has left in t: c, or who had left in s
    left_in : (a : ℕ) → t.status a ≡ 2 → (a ≡ c) ⊎ (s.status a ≡ 2)
    left_in a e = elim (same_or_not a c) [ inl i ↦ inl i | inr d ↦ inr (sym (ch.elsewhere a d) ∙ e) ]

    grows : (a : ℕ) → s.status a ≤ t.status a
    grows a = elim (same_or_not a c) [
      | inl i ↦ omega (arith, ap s.status i, ap t.status i, ch.here)
      | inr d ↦ omega (arith, ch.elsewhere a d)
    ]

    pushed_in : (a : ℕ) → 1 ≤ t.status a → 1 ≤ s.status a
    pushed_in a h = elim (same_or_not a c) [
      | inl i ↦ omega (arith, ap s.status i)
      | inr d ↦ omega (arith, ch.elsewhere a d)
    ]

    stays_left : (a : ℕ) → s.status a ≡ 2 → t.status a ≡ 2
    stays_left a e = ch.elsewhere a (λ i. clash i) ∙ e
      where
        clash : a ≡ c → ⊥
        clash i = omega (arith, ap s.status i)

    leaves_found : (a r : ℕ) → Found g height s a r → Found g height t a r
    leaves_found a r d = record {
      inside = d.inside;
      left = stays_left r d.left;
      near = d.near;
      level = ch.same_number a ∙ d.level ∙ ap (max (height a)) (sym (ch.same_number r));
    }

    leaves_reached : (a m : ℕ) → Reached g height s a m → Reached g height t a m
    leaves_reached a m d = record {
      pushed = omega (arith, d.pushed, grows m);
      level = omega (arith, d.level, ch.same_number m, ch.same_number a);
    }

    leaves_rising : (a b : ℕ) → a < g.cells → b < g.cells → (a ≡ c) ⊎ (s.status a ≡ 2) → t.status b ≡ 1 → t.number a ≤ t.number b
    leaves_rising a b l m p q = elim p [
      | inl i ↦ omega (arith, least b m was, ch.same_number a, ch.same_number b, ap s.number i)
      | inr r ↦ omega (arith, f.rising a b l m r was, ch.same_number a, ch.same_number b)
    ]
      where
        apart : b ≡ c → ⊥
        apart i = omega (arith, ap t.status i, ch.here)

        was : s.status b ≡ 1
        was = sym (ch.elsewhere b apart) ∙ q

    leaves_once : (a : ℕ) → a < g.cells → times a t.order ≡ one_if (t.status a) 2
    leaves_once a l = ap (times a) ch.more ∙ times_last a c s.order ∙ elim (same_or_not a c) [
      | inl i ↦ omega (
        arith,
        f.once a l,
        one_other (s.status a) 2 (unlike i),
        one_same c a (sym i),
        one_same (t.status a) 2 (ap t.status i ∙ ch.here),
      )
      | inr d ↦ omega (arith, f.once a l, one_other c a (λ i. d (sym i)), ap (λ n. one_if n 2) (ch.elsewhere a d))
    ]
      where
        unlike : a ≡ c → s.status a ≡ 2 → ⊥
        unlike i e = omega (arith, ap s.status i)

    leaves_only : (a : ℕ) → g.cells ≤ a → times a t.order ≡ 0
    leaves_only a l = ap (times a) ch.more ∙ times_last a c s.order ∙ omega (arith, f.only a l, one_other c a apart)
      where
        apart : c ≡ a → ⊥
        apart i = omega arith

    leaves_count : count_below g.cells (λ a. eqb (t.status a) 2) ≡ length t.order
    leaves_count =
        count_more (λ a. eqb (s.status a) 2) (λ a. eqb (t.status a) 2) g.cells c inside (ne_eqb (s.status c) 2 unlike) (eq-eqb (t.status c) 2 ch.here) (λ a d. ap (λ n. eqb n 2) (sym (ch.elsewhere a d)))
        ∙ omega (arith, f.count, ap length ch.more, length-append s.order (c ∷ []))
      where
        unlike : s.status c ≡ 2 → ⊥
        unlike e = omega arith

    -- what c leaves after
    leaves_last : After g height t s.order c
    leaves_last = record {
      discoverer = λ d. subst (λ r. 0 < times r s.order) (sym (ch.same_discoverer c)) (discoverer_left (g.base c) refl (λ i. d (ch.same_discoverer c ∙ i)));
      lower = λ m l p h. left_once g height s last 8 f m l (lower_left m l (pushed_in m p) (omega (arith, ch.same_number m, ch.same_number c)));
    }
      where
        discoverer_left : (b : Bool) → g.base c ≡ b → (s.discoverer c ≡ c → ⊥) → 0 < times (s.discoverer c) s.order
        discoverer_left true b d = absurd (d (f.base_discoverer c inside b))
        discoverer_left false b d =
            let r : Found g height s c (s.discoverer c) = f.found c inside (omega arith) b in
            left_once g height s last 8 f (s.discoverer c) r.inside r.left

        lower_left : (m : ℕ) → m < g.cells → 1 ≤ s.status m → s.number m < s.number c → s.status m ≡ 2
        lower_left m l p h = elim (same_or_not (s.status m) 1) [
          | inl i ↦ let z : ⊥ = omega (arith, least m l i) in absurd z
          | inr d ↦ omega (arith, f.known m l)
        ]

    leaves_after : (before : List ℕ) (a : ℕ) (rest : List ℕ) → t.order ≡ before ++ (a ∷ rest) → After g height t before a
    leaves_after before a rest e = elim (split_last s.order c before a rest (sym ch.more ∙ e)) [
      | inl h ↦ subst₂ (After g height t) (sym h.whole) (sym h.cell) leaves_last
      | inr h ↦ earlier (f.after before a h.rest h.splits)
    ]
      where
        earlier : After g height s before a → After g height t before a
        earlier h = record {
          discoverer = λ d. subst (λ r. 0 < times r before) (sym (ch.same_discoverer a)) (h.discoverer (λ i. d (ch.same_discoverer a ∙ i)));
          lower = λ m l p q. h.lower m l (pushed_in m p) (omega (arith, ch.same_number m, ch.same_number a));
        }

    leaves_way : (a : ℕ) → Way g height s a → Way g height t a
    leaves_way a h = record { chain = h.chain; level = h.level ∙ sym (ch.same_number a) }

    pub leaves : Flooding g height t c 0
    leaves = record {
      known = λ a l. elim (same_or_not a c) [
        | inl i ↦ omega (arith, ap t.status i, ch.here)
        | inr d ↦ omega (arith, ch.elsewhere a d, f.known a l)
      ];
      base_pushed = λ a l b. omega (arith, f.base_pushed a l b, grows a);
      base_number = λ a l b. ch.same_number a ∙ f.base_number a l b;
      base_discoverer = λ a l b. ch.same_discoverer a ∙ f.base_discoverer a l b;
      found = λ a l p b. subst (Found g height t a) (sym (ch.same_discoverer a)) (leaves_found a (s.discoverer a) (f.found a l (pushed_in a p) b));
      reached = λ a e l p lo hi inn d. elim (left_in a p) [
        | inl i ↦ let z : ⊥ = omega (arith, d i) in absurd z
        | inr q ↦ leaves_reached a (g.near a e) (f.reached a e l q lo hi inn (λ _. hi))
      ];
      rising = λ a b l m p q. leaves_rising a b l m (left_in a p) q;
      top = λ a l p. elim (left_in a p) [
        | inl i ↦ omega (arith, ap t.number i)
        | inr q ↦ omega (arith, ch.same_number a, ch.same_number c, f.rising a c l inside q waiting)
      ];
      once = leaves_once;
      only = leaves_only;
      count = leaves_count;
      after = leaves_after;
      way = λ a l p. leaves_way a (f.way a l (pushed_in a p));
    }
