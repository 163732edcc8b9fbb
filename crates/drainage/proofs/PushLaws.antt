-- A leaver that turns to one neighbour more keeps what holds of a flood: it pushes a cell not pushed yet, and leaves any other as it is.
use Prim.Native.Nat.{ℕ, suc, ◌≤◌, ◌<◌, max}
use mathlib.Core.Path.{◌≡◌, refl, sym, ap, ◌∙◌, subst, subst₂}
use mathlib.Core.Bool.{true}
use mathlib.Core.Logic.{inl, inr}
use mathlib.Core.List.{List, ◌∷◌, ◌++◌}
use native.Mathlib.Omega.{arith}
use lib.Dec.{eqb}
use lib.ListN.{length}
use borrow.Author.Tests.{ne_eqb}
use Rattle.drainage.specs.Ground.{Ground}
use Rattle.loops.specs.Counts.{one_if, times, count_below}
use Rattle.drainage.specs.Chains.{Neighbours, onward, crest}
use Rattle.drainage.specs.Theorems.{Joined}
use Rattle.loops.proofs.CountLaws.{count_same, one_other}
use Rattle.loops.proofs.TestLaws.{same_or_not}
use Rattle.drainage.proofs.InvariantLaws.{View, Found, Reached, Way, After, Flooding, Pushes, in_order, pushed_level}

module _ (g : Ground) (height : ℕ → ℕ) where
  -- the leaver's next direction leads to no cell, or to one that is pushed already
  pub passes_by :
      (s : View) (c d : ℕ) → Flooding g height s c d → (g.near c (suc d) < g.cells → 1 ≤ s.status (g.near c (suc d)))
      → Flooding g height s c (suc d)
  passes_by s c d f pushed = record {
    known = f.known;
    base_pushed = f.base_pushed;
    base_number = f.base_number;
    base_discoverer = f.base_discoverer;
    found = f.found;
    reached = λ a e l p lo hi inn k. elim (same_or_not a c) [
      | inl i ↦ elim (same_or_not e (suc d)) [
        | inl j ↦ subst₂ (λ a e. g.near a e < g.cells → Reached g height s a (g.near a e)) (sym i) (sym j) (λ m. level m (pushed m)) inn
        | inr n ↦ f.reached a e l p lo hi inn (λ i. let h : e ≤ suc d = k i in omega arith)
      ]
      | inr n ↦ f.reached a e l p lo hi inn (λ i. absurd (n i))
    ];
    rising = f.rising;
    top = f.top;
    once = f.once;
    only = f.only;
    count = f.count;
    after = f.after;
    way = f.way;
  }
    where
      level : g.near c (suc d) < g.cells → 1 ≤ s.status (g.near c (suc d)) → Reached g height s c (g.near c (suc d))
      level m p = record { pushed = p; level = pushed_level g height s c d f (g.near c (suc d)) m p }

  module _ (joined : Joined g) (s t : View) (c d : ℕ) (f : Flooding g height s c d) (within : d < 8) (inside : c < g.cells)
      (left : s.status c ≡ 2) (there : g.near c (suc d) < g.cells) (new : s.status (g.near c (suc d)) ≡ 0)
      (ch : Pushes g height s t c (g.near c (suc d))) where
    abbrev m : ℕ
    m = g.near c (suc d)

    -- c and m are neighbours
    next : Neighbours g c m
    next = record { direction = suc d; first = omega arith; last = omega arith; inside = there; leads = refl }

    apart : (a : ℕ) → 1 ≤ s.status a → a ≡ m → ⊥
    apart a h i = omega (arith, ap s.status i)

    old : (a : ℕ) → a ≡ m → s.status a ≡ 2 → ⊥
    old a i e = apart a (omega arith) i

    apart_left : (a : ℕ) → t.status a ≡ 2 → a ≡ m → ⊥
    apart_left a h i = omega (arith, ap t.status i, ch.here)

    left_in : (a : ℕ) → t.status a ≡ 2 → s.status a ≡ 2
    left_in a e = sym (ch.elsewhere a (apart_left a e)) ∙ e

    no_base_lem : (a : ℕ) → a < g.cells → g.base a ≡ true → a ≡ m → ⊥
    no_base_lem a l b = apart a (f.base_pushed a l b)

    leaver_number : t.number c ≡ s.number c
    leaver_number = ch.else_number c (apart c (omega arith))

    pushes_found : (a r : ℕ) → 1 ≤ s.status a → Found g height s a r → Found g height t a r
    pushes_found a r p h = record {
      inside = h.inside;
      left = ch.elsewhere r apart_r ∙ h.left;
      near = h.near;
      level = ch.else_number a (apart a p) ∙ h.level ∙ ap (max (height a)) (sym (ch.else_number r apart_r));
    }
      where
        apart_r : r ≡ m → ⊥
        apart_r = apart r (omega (arith, h.left))

    pushes_found_here : Found g height t m c
    pushes_found_here = record {
      inside = inside;
      left = ch.elsewhere c (apart c (omega arith)) ∙ left;
      near = joined.both_ways c m inside next;
      level = ch.here_number ∙ ap (max (height m)) (sym leaver_number);
    }

    pushes_reached : (a x : ℕ) → s.status a ≡ 2 → Reached g height s a x → Reached g height t a x
    pushes_reached a x p h = record {
      pushed = omega (arith, ch.elsewhere x (apart x h.pushed), h.pushed);
      level = omega (arith, h.level, ch.else_number x (apart x h.pushed), ch.else_number a (apart a (omega arith)));
    }

    pushes_reached_here : Reached g height t c m
    pushes_reached_here = record { pushed = omega (arith, ch.here); level = omega (arith, ch.here_number, leaver_number) }

    pushes_rising : (a b : ℕ) → a < g.cells → b < g.cells → t.status a ≡ 2 → t.status b ≡ 1 → t.number a ≤ t.number b
    pushes_rising a b l k p q = elim (same_or_not b m) [
      | inl i ↦ omega (arith, ap t.number i, ch.here_number, f.top a l (left_in a p), same)
      | inr n ↦ omega (arith, f.rising a b l k (left_in a p) (sym (ch.elsewhere b n) ∙ q), ch.else_number b n, same)
    ]
      where
        same : t.number a ≡ s.number a
        same = ch.else_number a (apart_left a p)

    pushes_once : (a : ℕ) → a < g.cells → times a t.order ≡ one_if (t.status a) 2
    pushes_once a l = ap (times a) ch.same_order ∙ f.once a l ∙ elim (same_or_not a m) [
      | inl i ↦ one_other (s.status a) 2 (old a i) ∙ sym (one_other (t.status a) 2 (λ e. apart_left a e i))
      | inr n ↦ ap (λ k. one_if k 2) (sym (ch.elsewhere a n))
    ]

    pushes_count : count_below g.cells (λ a. eqb (t.status a) 2) ≡ length t.order
    pushes_count =
        count_same g.cells (λ a. eqb (t.status a) 2) (λ a. eqb (s.status a) 2) (λ a l. elim (same_or_not a m) [
          | inl i ↦ ne_eqb (t.status a) 2 (λ e. apart_left a e i) ∙ sym (ne_eqb (s.status a) 2 (old a i))
          | inr n ↦ ap (λ k. eqb k 2) (ch.elsewhere a n)
        ])
        ∙ f.count
        ∙ ap length (sym ch.same_order)

    pushes_after : (before : List ℕ) (a : ℕ) (rest : List ℕ) → t.order ≡ before ++ (a ∷ rest) → After g height t before a
    pushes_after before a rest e = record {
      discoverer = λ n. subst (λ r. 0 < times r before) (sym same_discoverer) (h.discoverer (λ i. n (same_discoverer ∙ i)));
      lower = λ x l p q. elim (same_or_not x m) [
        | inl i ↦ let z : ⊥ = omega (arith, ap t.number i, ch.here_number, f.top a had.0 had.1, same) in absurd z
        | inr n ↦ h.lower x l (omega (arith, ch.elsewhere x n)) (omega (arith, ch.else_number x n, same))
      ];
    }
      where
        was : s.order ≡ before ++ (a ∷ rest)
        was = sym ch.same_order ∙ e

        had : (a < g.cells) × (s.status a ≡ 2)
        had = in_order g height s c d f before a rest was

        h : After g height s before a
        h = f.after before a rest was

        away : a ≡ m → ⊥
        away = apart a (omega (arith, had.1))

        same : t.number a ≡ s.number a
        same = ch.else_number a away

        same_discoverer : t.discoverer a ≡ s.discoverer a
        same_discoverer = ch.else_discoverer a away

    pushes_way : (a : ℕ) → (a ≡ m → ⊥) → Way g height s a → Way g height t a
    pushes_way a n h = record { chain = h.chain; level = h.level ∙ sym (ch.else_number a n) }

    pushes_way_here : Way g height s c → Way g height t m
    unfolding crest
    pushes_way_here h = record {
      chain = onward m (joined.both_ways c m inside next) h.chain;
      level = ap (max (height m)) h.level ∙ sym ch.here_number;
    }

    pub pushes : Flooding g height t c (suc d)
    pushes = record {
      known = λ a l. elim (same_or_not a m) [
        | inl i ↦ omega (arith, ap t.status i, ch.here)
        | inr n ↦ omega (arith, ch.elsewhere a n, f.known a l)
      ];
      base_pushed = λ a l b. omega (arith, f.base_pushed a l b, ch.elsewhere a (no_base_lem a l b));
      base_number = λ a l b. ch.else_number a (no_base_lem a l b) ∙ f.base_number a l b;
      base_discoverer = λ a l b. ch.else_discoverer a (no_base_lem a l b) ∙ f.base_discoverer a l b;
      found = λ a l p b. elim (same_or_not a m) [
        | inl i ↦ subst₂ (Found g height t) (sym i) (sym (ap t.discoverer i ∙ ch.here_discoverer)) pushes_found_here
        | inr n ↦ subst (Found g height t a) (sym (ch.else_discoverer a n)) (pushes_found a (s.discoverer a) (was a n p) (f.found a l (was a n p) b))
      ];
      reached = λ a e l p lo hi inn k. elim (same_or_not e (suc d)) [
        | inl j ↦ elim (same_or_not a c) [
          | inl i ↦ subst₂ (λ a e. Reached g height t a (g.near a e)) (sym i) (sym j) pushes_reached_here
          | inr n ↦ pushes_reached a (g.near a e) (left_in a p) (f.reached a e l (left_in a p) lo hi inn (λ i. absurd (n i)))
        ]
        | inr n ↦ pushes_reached a (g.near a e) (left_in a p) (f.reached a e l (left_in a p) lo hi inn (λ i. let h : e ≤ suc d = k i in omega arith))
      ];
      rising = pushes_rising;
      top = λ a l p. omega (arith, f.top a l (left_in a p), ch.else_number a (apart_left a p), leaver_number);
      once = pushes_once;
      only = λ a l. ap (times a) ch.same_order ∙ f.only a l;
      count = pushes_count;
      after = pushes_after;
      way = λ a l p. elim (same_or_not a m) [
        | inl i ↦ subst (Way g height t) (sym i) (pushes_way_here (f.way c inside (omega arith)))
        | inr n ↦ pushes_way a n (f.way a l (was a n p))
      ];
    }
      where
        was : (a : ℕ) → (a ≡ m → ⊥) → 1 ≤ t.status a → 1 ≤ s.status a
        was a n p = omega (arith, ch.elsewhere a n)
