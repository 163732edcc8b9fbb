-- Refusal 7 is two-way: of a list of n entries none is bad exactly if it is a work list.
use Prim.Native.Nat.{ℕ, zero, suc, ◌≤◌, ◌<◌}
use native.Mathlib.Omega.{arith}
use native.Mathlib.Decide.{ℕ_discrete}
use mathlib.Core.Path.{◌≡◌, refl, ap, ◌∙◌, subst}
use mathlib.Core.Bool.{Bool, true, false, ◌||◌, true≢false}
use mathlib.Core.List.{List, ◌∷◌, ◌++◌}
use lib.ListN.{length, get_or, take, drop, length-append}
use lib.Seq.{split_at, take_at, get_or_at, take-length}
use lib.Dec.{eqb, ltb}
use borrow.Author.Tests.{eqb-true, ltb-true, lt-ltb, eq-eqb, ne_eqb}
use Rattle.loops.proofs.CountLaws.{one_same, one_other, times_more, sum_bound, times_here}
use Rattle.loops.proofs.TestLaws.{both}
use Rattle.loops.specs.Counts.{one_if, times, sum_below}
use Rattle.drainage.specs.Ways.{WorkList}
use Rattle.drainage.proofs.WorkListLaws.{length_is, below_of, split, entry_lt}
use Rattle.lent_list.specs.Entries.{good_entry, GoodAt, PassesAsWorkList, ListTest}
use Rattle.loops.proofs.FirstLaws.{first_all, all_first}

-- the test and what it means
either : (a b : Bool) → (a || b) ≡ true → a ≡ false → b ≡ true
either true b e f = absurd (true≢false f)
either false b e f = e

module _ (n : ℕ) (recv list : List ℕ) (i : ℕ) where
  pub good_at_lem : good_entry n recv list i ≡ true → GoodAt n recv list i
  unfolding good_entry
  good_at_lem e =
      let c : ℕ = get_or list i 0 in
      let t = both (ltb c n) _ e in
      let u = both (eqb (times c (take i list)) 0) _ t.1 in
      record {
        cell = ltb-true c n t.0;
        fresh = eqb-true _ 0 u.0;
        after = λ h. ltb-true 0 _ (either (eqb (get_or recv c 0) c) _ u.1 (ne_eqb _ _ h));
      }

  pub at_good : GoodAt n recv list i → good_entry n recv list i ≡ true
  unfolding good_entry
  at_good g = rw (lt-ltb _ _ g.cell, eq-eqb _ 0 g.fresh) (go (ℕ_discrete r c))
    where
      c : ℕ
      c = get_or list i 0

      r : ℕ
      r = get_or recv c 0

      go : Dec (r ≡ c) → (eqb r c || ltb 0 (times r (take i list))) ≡ true
      go (yes e) = rw (eq-eqb r c e)
      go (no h) = rw (ne_eqb r c h) (lt-ltb 0 _ (g.after h))

-- at most 1 each and n in all: 1 each
sum_full : (n : ℕ) (f : ℕ → ℕ) → ((c : ℕ) → c < n → f c ≤ 1) → sum_below n (λ c. true) f ≡ n → (c : ℕ) → c < n → f c ≡ 1
unfolding sum_below
sum_full zero f h e c l = absurd (omega arith)
sum_full (suc n) f h e c l =
    let b = sum_bound n f (λ c l. h c (omega arith)) in
    let t : f n ≤ 1 = h n (omega arith) in
    let whole : sum_below n (λ c. true) f ≡ n = omega (arith, b) in
    let last : f n ≡ 1 = omega arith in
    go last (sum_full n f (λ c l. h c (omega arith)) whole c) (ℕ_discrete c n)
  where
    go : f n ≡ 1 → (c < n → f c ≡ 1) → Dec (c ≡ n) → f c ≡ 1
    go last r (yes e) = ap f e ∙ last
    go last r (no k) = r (omega arith)

module _ (n : ℕ) (recv list : List ℕ) (long : length list ≡ n) where
  module _ (good : (i : ℕ) → i < n → GoodAt n recv list i) where
    -- no entry is n or more
    none_above : (c : ℕ) → n ≤ c → (i : ℕ) → i ≤ n → times c (take i list) ≡ 0
    unfolding times
    none_above c h zero l = refl
    none_above c h (suc i) l =
        omega (arith, times_more c i list (omega arith), none_above c h i (omega arith), one_other (get_or list i 0) c (λ e. omega (arith, (good i l).cell)))

    -- none stands twice
    once_each : (c i : ℕ) → i ≤ n → times c (take i list) ≤ 1
    unfolding times
    once_each c zero l = omega arith
    once_each c (suc i) l = go (ℕ_discrete (get_or list i 0) c) (once_each c i (omega arith))
      where
        go : Dec (get_or list i 0 ≡ c) → times c (take i list) ≤ 1 → times c (take (suc i) list) ≤ 1
        go (yes e) r =
            let f : times c (take i list) ≡ 0 = rw e at (good i l).fresh in
            omega (arith, times_more c i list (omega arith), ap (λ (k : ℕ). one_if k c) e, one_same c c refl)
        go (no h) r = omega (arith, times_more c i list (omega arith), one_other (get_or list i 0) c h)

    whole : take n list ≡ list
    whole = rw (← long) (take-length list)

    pub good_work : WorkList n recv list
    good_work =
        let only : (c : ℕ) → n ≤ c → times c list ≡ 0 = λ c h. subst (λ (l : List ℕ). times c l ≡ 0) whole (none_above c h n (omega arith)) in
        let most : (c : ℕ) → times c list ≤ 1 = λ c. subst (λ (l : List ℕ). times c l ≤ 1) whole (once_each c n (omega arith)) in
        record {
          once = sum_full n (λ c. times c list) (λ c l. most c) (length_is n list (below_of list only) ∙ long);
          only = only;
          after = after;
        }
      where
        after : (before : List ℕ) (c : ℕ) (rest : List ℕ) → list ≡ before ++ (c ∷ rest) → (get_or recv c 0 ≡ c → ⊥) → 0 < times (get_or recv c 0) before
        after before c rest e h =
            let inside : length before < n = omega (arith, ap length e, length-append before (c ∷ rest)) in
            let at : get_or list (length before) 0 ≡ c = ap (λ (l : List ℕ). get_or l (length before) 0) e ∙ get_or_at before c rest 0 (length before) refl in
            let front : take (length before) list ≡ before = ap (take (length before)) e ∙ take_at before (c ∷ rest) (length before) refl in
            rw (at, front) at ((good (length before) inside).after (λ q. h (rw at at q)))

  module _ (w : WorkList n recv list) (i : ℕ) (l : i < n) where
    parts : list ≡ take i list ++ (get_or list i 0 ∷ drop (suc i) list)
    parts = split_at list i 0 (omega arith)

    pub work_good : GoodAt n recv list i
    work_good =
        let c : ℕ = get_or list i 0 in
        let inside : c < n = entry_lt w (take i list) c (drop (suc i) list) parts in
        record {
          cell = inside;
          fresh = omega (arith, split w c (take i list) c (drop (suc i) list) parts, times_here c (drop (suc i) list), w.once c inside);
          after = w.after (take i list) c (drop (suc i) list) parts;
        }

  passes : PassesAsWorkList n recv list
  passes =
      record {
        sound = λ e. good_work (λ i l. good_at_lem n recv list i (all_first n (good_entry n recv list) e i l));
        complete = λ w. first_all n (good_entry n recv list) (λ i l. at_good n recv list i (work_good w i l));
      }

pub list_test : ListTest
list_test = passes
