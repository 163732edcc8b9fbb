-- Along any work list the areas, added as floats, are the numbers of cells whose way down passes through, and the areas of the cells that are
-- their own receiver total the cells: the theorem `Areas` of specs/Theorems.antt.
use Prim.Native.Nat.{ℕ, ◌+◌, ◌^◌, ◌≤◌, ◌<◌}
use mathlib.Core.Path.{◌≡◌, refl, sym, ap, ap₂, ◌∙◌, subst}
use mathlib.Core.Bool.{Bool, true, false, ◌&&◌, ◌||◌, cond, and-true, and-false, or-false, or_self}
use mathlib.Core.List.{List, [], ◌∷◌, ◌++◌}
use native.Mathlib.Omega.{arith}
use lib.Dec.{eqb}
use lib.ListN.{length, get_or, set, length-replicate, get_or-replicate, length-set}
use lib.Seq.{get_or-set_same, get_or-set_other}
use lib.Ieee.{nan, binary32, of_bits, add}
use borrow.Author.Tests.{eq-eqb, ne_eqb, eqb-true, eqb-false}
use Rattle.floats.specs.Stand.{whole}
use Rattle.float_order.proofs.WholeLaws.{whole_sum, whole_one}
use Rattle.loops.specs.Counts.{times, count_below, sum_below}
use Rattle.drainage.specs.Ways.{WorkList, down, passes, area_of, areas_along}
use Rattle.drainage.specs.Theorems.{Areas}
use Rattle.loops.proofs.CountLaws.{count_same, count_le, count_or, count_one, sum_same, sum_of_counts}
use Rattle.drainage.proofs.TrailLaws.{home, trail, Downstream, downstream_tail, trail_home, home_own, trail_stays}
use Rattle.drainage.proofs.WorkListLaws.{entry_lt, receiver_lt, downstream}
use Rattle.drainage.proofs.WayLaws.{home_down, down_lt, trail_passes}

or_none : (a b : Bool) → a || (b && false) ≡ a
or_none a b = ap (λ (c : Bool). a || c) (and-false b) ∙ or-false a

-- how many units of n cells have been at x once the suffix s has passed its units on
abbrev pub been : ℕ → List ℕ → List ℕ → ℕ → ℕ
been n recv s x = count_below n (λ j. trail (λ c. get_or recv c 0) s j x)

module _ (n : ℕ) (small : n ≤ 2 ^ 24) (recv : List ℕ) where
  abbrev r : ℕ → ℕ
  r c = get_or recv c 0

  pub length_areas : (s : List ℕ) → length (areas_along n recv s) ≡ n
  unfolding areas_along
  length_areas [] = length-replicate n (of_bits binary32 0x3f80_0000)
  length_areas (c ∷ s) = go (length_areas s) (eqb (get_or recv c 0) c)
    where
      go : length (areas_along n recv s) ≡ n → (b : Bool) → length (cond b (areas_along n recv s) (set (areas_along n recv s) (get_or recv c 0) (add binary32 (get_or (areas_along n recv s) (get_or recv c 0) nan) (get_or (areas_along n recv s) c nan)))) ≡ n
      go ih true = ih
      go ih false = length-set (areas_along n recv s) (get_or recv c 0) _ ∙ ih

  -- a cell that passes its unit on adds what has been at it to its receiver
  pub been_receiver : (c : ℕ) (s : List ℕ) → times c s ≡ 0 → times (get_or recv c 0) s ≡ 0 → (get_or recv c 0 ≡ c → ⊥) → been n recv (c ∷ s) (get_or recv c 0) ≡ been n recv s (get_or recv c 0) + been n recv s c
  unfolding trail
  been_receiver c s once behind other =
      count_same n (λ j. trail r s j (r c) || (eqb (home r s j) c && eqb (r c) (r c))) (λ j. trail r s j (r c) || trail r s j c) (λ j h. ap (λ (b : Bool). trail r s j (r c) || b) (same j))
      ∙ count_or n (λ j. trail r s j (r c)) (λ j. trail r s j c) (λ j h. ap₂ (λ (a b : Bool). a && b) (trail_home r s j (r c) behind) (trail_home r s j c once) ∙ apart (home r s j))
    where
      same : (j : ℕ) → eqb (home r s j) c && eqb (r c) (r c) ≡ trail r s j c
      same j = ap (λ (b : Bool). eqb (home r s j) c && b) (eq-eqb (r c) (r c) refl) ∙ and-true (eqb (home r s j) c) ∙ sym (trail_home r s j c once)

      apart : (x : ℕ) → eqb x (r c) && eqb x c ≡ false
      apart x = go (eqb x (r c)) refl
        where
          go : (b : Bool) → eqb x (r c) ≡ b → b && eqb x c ≡ false
          go true e = ne_eqb x c (λ q. other (sym (eqb-true x (r c) e) ∙ q))
          go false e = refl

  -- elsewhere nothing changes
  pub been_other : (c x : ℕ) (s : List ℕ) → (get_or recv c 0 ≡ x → ⊥) → been n recv (c ∷ s) x ≡ been n recv s x
  unfolding trail
  been_other c x s other = count_same n (λ j. trail r s j x || (eqb (home r s j) c && eqb (r c) x)) (λ j. trail r s j x) (λ j h. ap (λ (b : Bool). trail r s j x || (eqb (home r s j) c && b)) (ne_eqb (r c) x other) ∙ or_none (trail r s j x) (eqb (home r s j) c))

  -- nor does it at a cell that is its own receiver
  pub been_own : (c x : ℕ) (s : List ℕ) → times c s ≡ 0 → get_or recv c 0 ≡ c → been n recv (c ∷ s) x ≡ been n recv s x
  unfolding trail
  been_own c x s once own = count_same n (λ j. trail r s j x || (eqb (home r s j) c && eqb (r c) x)) (λ j. trail r s j x) (λ j h. go j (eqb (r c) x) refl)
    where
      go : (j : ℕ) (b : Bool) → eqb (r c) x ≡ b → trail r s j x || (eqb (home r s j) c && eqb (r c) x) ≡ trail r s j x
      go j true e =
          let same : c ≡ x = sym own ∙ eqb-true (r c) x e in
          let here : eqb (home r s j) c ≡ trail r s j x = sym (trail_home r s j c once) ∙ ap (trail r s j) same in
          ap₂ (λ (a b : Bool). trail r s j x || (a && b)) here e ∙ ap (λ (b : Bool). trail r s j x || b) (and-true (trail r s j x)) ∙ or_self (trail r s j x)
      go j false e = ap (λ (b : Bool). trail r s j x || (eqb (home r s j) c && b)) e ∙ or_none (trail r s j x) (eqb (home r s j) c)

  -- the areas of the definition are these counts
  areas_are : (s : List ℕ) → Downstream (λ c. get_or recv c 0) s → ((before : List ℕ) (c : ℕ) (rest : List ℕ) → s ≡ before ++ (c ∷ rest) → (c < n) × (get_or recv c 0 < n))
      → (x : ℕ) → x < n → get_or (areas_along n recv s) x nan ≡ whole (been n recv s x)
  unfolding areas_along trail
  areas_are [] d below x h =
      get_or-replicate n x (of_bits binary32 0x3f80_0000) nan h ∙ sym whole_one ∙ ap whole (sym (count_one n x h))
  areas_are (c ∷ s) d below x h = go (areas_are s (downstream_tail (λ c. get_or recv c 0) c s d) (λ b c' t e. below (c ∷ b) c' t (ap (λ l. c ∷ l) e))) (eqb (get_or recv c 0) c) refl
    where
      once : times c s ≡ 0
      once = d.once [] c s refl

      behind : times (get_or recv c 0) s ≡ 0
      behind = d.behind [] c s refl

      go : ((y : ℕ) → y < n → get_or (areas_along n recv s) y nan ≡ whole (been n recv s y)) → (b : Bool) → eqb (get_or recv c 0) c ≡ b
          → get_or (cond (eqb (get_or recv c 0) c) (areas_along n recv s) (set (areas_along n recv s) (get_or recv c 0) (add binary32 (get_or (areas_along n recv s) (get_or recv c 0) nan) (get_or (areas_along n recv s) c nan)))) x nan ≡ whole (been n recv (c ∷ s) x)
      go ih true e = ap (λ (b : Bool). get_or (cond b (areas_along n recv s) (set (areas_along n recv s) (get_or recv c 0) (add binary32 (get_or (areas_along n recv s) (get_or recv c 0) nan) (get_or (areas_along n recv s) c nan)))) x nan) e ∙ ih x h ∙ ap whole (sym (been_own c x s once (eqb-true (get_or recv c 0) c e)))
      go ih false e = ap (λ (b : Bool). get_or (cond b (areas_along n recv s) (set (areas_along n recv s) (get_or recv c 0) (add binary32 (get_or (areas_along n recv s) (get_or recv c 0) nan) (get_or (areas_along n recv s) c nan)))) x nan) e ∙ at (eqb (get_or recv c 0) x) refl
        where
          other : get_or recv c 0 ≡ c → ⊥
          other = eqb-false (get_or recv c 0) c e

          sum_is : add binary32 (get_or (areas_along n recv s) (get_or recv c 0) nan) (get_or (areas_along n recv s) c nan) ≡ whole (been n recv (c ∷ s) (get_or recv c 0))
          sum_is =
              ap₂ (add binary32) (ih (get_or recv c 0) (below [] c s refl).1) (ih c (below [] c s refl).0)
              ∙ whole_sum (been n recv s (get_or recv c 0)) (been n recv s c) (omega (arith, sym (been_receiver c s once behind other), count_le n (λ j. trail (λ c. get_or recv c 0) (c ∷ s) j (get_or recv c 0)), small))
              ∙ ap whole (sym (been_receiver c s once behind other))

          at : (b : Bool) → eqb (get_or recv c 0) x ≡ b → get_or (set (areas_along n recv s) (get_or recv c 0) (add binary32 (get_or (areas_along n recv s) (get_or recv c 0) nan) (get_or (areas_along n recv s) c nan))) x nan ≡ whole (been n recv (c ∷ s) x)
          at true t =
              let same : get_or recv c 0 ≡ x = eqb-true (get_or recv c 0) x t in
              ap (λ (y : ℕ). get_or (set (areas_along n recv s) (get_or recv c 0) (add binary32 (get_or (areas_along n recv s) (get_or recv c 0) nan) (get_or (areas_along n recv s) c nan))) y nan) (sym same)
              ∙ get_or-set_same (areas_along n recv s) (get_or recv c 0) (add binary32 (get_or (areas_along n recv s) (get_or recv c 0) nan) (get_or (areas_along n recv s) c nan)) nan (subst (λ (k : ℕ). get_or recv c 0 < k) (sym (length_areas s)) (below [] c s refl).1)
              ∙ sum_is
              ∙ ap (λ (y : ℕ). whole (been n recv (c ∷ s) y)) same
          at false t =
              let off : get_or recv c 0 ≡ x → ⊥ = eqb-false (get_or recv c 0) x t in
              get_or-set_other (areas_along n recv s) (get_or recv c 0) x (add binary32 (get_or (areas_along n recv s) (get_or recv c 0) nan) (get_or (areas_along n recv s) c nan)) nan (λ q. off (sym q))
              ∙ ih x h
              ∙ ap whole (sym (been_other c x s off))

-- along a work list
pub work_areas : {n : ℕ} (small : n ≤ 2 ^ 24) {recv list : List ℕ} → WorkList n recv list → (c : ℕ) → c < n → get_or (areas_along n recv list) c nan ≡ whole (been n recv list c)
work_areas {n} small {recv} {list} w = areas_are n small recv list (downstream w) (λ b c t e. let l = entry_lt w b c t e in (l, receiver_lt w c l))

-- ---- the theorem
pub areas : Areas
unfolding area_of count_below
areas n small recv list w = record { area = area; total = total }
  where
    count_is : (c : ℕ) → count_below n (λ j. trail (λ c. get_or recv c 0) list j c) ≡ area_of n recv c
    count_is c = count_same n (λ j. trail (λ c. get_or recv c 0) list j c) (λ j. passes recv n j c) (λ j h. trail_passes w j c h)

    area : (c : ℕ) → c < n → get_or (areas_along n recv list) c nan ≡ whole (area_of n recv c)
    area c h = work_areas small w c h ∙ ap whole (count_is c)

    home_lt : (j : ℕ) → j < n → home (λ c. get_or recv c 0) list j < n
    home_lt j h = let q : (k : ℕ) × (home (λ c. get_or recv c 0) list j ≡ down recv k j) = home_down recv list j in subst (λ (x : ℕ). x < n) (sym q.1) (down_lt w q.0 j h)

    total : sum_below n (λ c. eqb (get_or recv c 0) c) (area_of n recv) ≡ n
    total =
        sum_same n (λ c. eqb (get_or recv c 0) c) (area_of n recv) (λ c. count_below n (λ j. eqb (home (λ c. get_or recv c 0) list j) c))
        (λ c h own. sym (count_is c) ∙ count_same n (λ j. trail (λ c. get_or recv c 0) list j c) (λ j. eqb (home (λ c. get_or recv c 0) list j) c) (λ j l. trail_stays (λ c. get_or recv c 0) list j c (eqb-true (get_or recv c 0) c own)))
        ∙ sum_of_counts n (λ c. eqb (get_or recv c 0) c) n (λ j. home (λ c. get_or recv c 0) list j) home_lt
        (λ j h. eq-eqb (get_or recv (home (λ c. get_or recv c 0) list j) 0) (home (λ c. get_or recv c 0) list j) (home_own (λ c. get_or recv c 0) list (downstream w) j (omega (arith, w.once (home (λ c. get_or recv c 0) list j) (home_lt j h)))))
