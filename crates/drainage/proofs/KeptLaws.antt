-- What a flood keeps, with no premise on the ground or the heights: its lists hold one entry for each cell, and from when a cell is pushed its
-- spill height and its discoverer stay, and its status only rises; the order only grows at its end.
use Prim.Native.Nat.{ℕ, zero, suc, ◌+◌, ◌≤◌, ◌<◌}
use mathlib.Core.Path.{◌≡◌, refl, sym, ap, ◌∙◌, subst}
use mathlib.Core.Bool.{Bool, true, false, cond}
use mathlib.Core.Logic.{inl, inr}
use mathlib.Core.List.{List, [], ◌∷◌, ◌++◌, append_assoc, append-nil}
use native.Mathlib.Nat.{add-zero, add-suc}
use native.Mathlib.Omega.{arith}
use lib.Dec.{eqb, ltb}
use lib.ListN.{length, get_or, set, length-set, get_or-eq_default}
use lib.Seq.{get_or-set_same, get_or-set_other}
use borrow.Author.Tests.{ltb-true, ltb-false, eqb-true, eqb-false}
use Rattle.loops.specs.Loops.{turns}
use Rattle.loops.proofs.TableLaws.{length_tabulate}
use Rattle.drainage.specs.Ground.{Ground, Kind}
use Rattle.drainage.specs.Flood.{Flood, flood_start, pushed, push, push_all, leave, waits, least_waiting, flood_step, flood_after}
use Rattle.loops.proofs.TestLaws.{same_or_not, lower_or_not}
use Rattle.drainage.proofs.LeastLaws.{least_waiting_found}

-- inside a list the default does not matter
pub get_d_inside : {A : Type 0} (l : List A) (i : ℕ) (d e : A) → i < length l → get_or l i d ≡ get_or l i e
get_d_inside [] i d e h = let z : ⊥ = omega arith in absurd z
get_d_inside (x ∷ l) zero d e h = refl
get_d_inside (x ∷ l) (suc i) d e h = get_d_inside l i d e (omega arith)

pub record Sized {H : Type 0} (n : ℕ) (s : Flood H) : Type 0 where
  pub status : length s.status ≡ n
  pub spill : length s.spill ≡ n
  pub discoverer : length s.discoverer ≡ n

-- t is a later state of the flood s
pub record Later {H : Type 0} (absent : H) (s t : Flood H) : Type 0 where
  pub status : (c : ℕ) → get_or s.status c 0 ≤ get_or t.status c 0
  pub spill : (c : ℕ) → 1 ≤ get_or s.status c 0 → get_or t.spill c absent ≡ get_or s.spill c absent
  pub discoverer : (c : ℕ) → 1 ≤ get_or s.status c 0 → get_or t.discoverer c 0 ≡ get_or s.discoverer c 0
  pub rest : List ℕ
  pub order : t.order ≡ s.order ++ rest

pub later_same : {H : Type 0} (absent : H) (s : Flood H) → Later absent s s
later_same absent s = record {
  status = λ c. omega arith;
  spill = λ c p. refl;
  discoverer = λ c p. refl;
  rest = [];
  order = sym (append-nil s.order);
}

pub later_more : {H : Type 0} {absent : H} {s t u : Flood H} → Later absent s t → Later absent t u → Later absent s u
later_more {s} {t} {u} a b = record {
  status = λ c. omega (arith, a.status c, b.status c);
  spill = λ c p. b.spill c (omega (arith, a.status c)) ∙ a.spill c p;
  discoverer = λ c p. b.discoverer c (omega (arith, a.status c)) ∙ a.discoverer c p;
  rest = a.rest ++ b.rest;
  order = b.order ∙ ap (λ l. l ++ b.rest) a.order ∙ append_assoc s.order a.rest b.rest;
}

module _ {H : Type 0} (k : Kind H) (g : Ground) (hs : List H) where
  -- a push is one of two things: a cell not pushed yet waits from now on, or nothing happens
  pub push_cases :
      (P : Flood H → Type 0) (c m : ℕ) (s : Flood H) → Sized g.cells s
      → (m < g.cells → get_or s.status m 0 ≡ 0 → P (pushed k g hs c m s)) → ((m < g.cells → 1 ≤ get_or s.status m 0) → P s) → P (push k g hs c m s)
  push_cases P c m s z yes-push no-push = go (eqb (get_or s.status m 1) 0) refl
    where
      inside : get_or s.status m 1 ≡ 0 → m < g.cells
      inside e = elim (lower_or_not m g.cells) [
        | inl l ↦ l
        | inr l ↦ let f : ⊥ = omega (arith, get_or-eq_default s.status 1 {n = m} (omega (arith, z.status))) in absurd f
      ]

      same : m < g.cells → get_or s.status m 1 ≡ get_or s.status m 0
      same l = get_d_inside s.status m 1 0 (omega (arith, z.status))

      waited : (b : Bool) → eqb (get_or s.status m 1) 0 ≡ false → m < g.cells → 1 ≤ get_or s.status m 0
      waited b e l = elim (same_or_not (get_or s.status m 0) 0) [
        | inl i ↦ absurd (eqb-false (get_or s.status m 1) 0 e (same l ∙ i))
        | inr n ↦ omega arith
      ]

      go : (b : Bool) → eqb (get_or s.status m 1) 0 ≡ b → P (cond b (pushed k g hs c m s) s)
      go true e =
          let i : get_or s.status m 1 ≡ 0 = eqb-true (get_or s.status m 1) 0 e in
          yes-push (inside i) (sym (same (inside i)) ∙ i)
      go false e = no-push (waited false e)

  pub push_sized : (c m : ℕ) (s : Flood H) → Sized g.cells s → Sized g.cells (push k g hs c m s)
  push_sized c m s z = push_cases (Sized g.cells) c m s z
      (λ _ _. record {
        status = simp length-set z.status;
        spill = simp length-set z.spill;
        discoverer = simp length-set z.discoverer;
      })
      (λ _. z)

  pub push_later : (c m : ℕ) (s : Flood H) → Sized g.cells s → Later k.absent s (push k g hs c m s)
  push_later c m s z = push_cases (Later k.absent s) c m s z
      (λ l e. record {
        status = λ j. elim (same_or_not j m) [
          | inl i ↦ omega (arith, ap (λ i. get_or s.status i 0) i)
          | inr n ↦ omega (arith, get_or-set_other s.status m j 1 0 n)
        ];
        spill = λ j p. get_or-set_other s.spill m j _ k.absent (apart e j p);
        discoverer = λ j p. get_or-set_other s.discoverer m j _ 0 (apart e j p);
        rest = [];
        order = sym (append-nil s.order);
      })
      (λ _. later_same k.absent s)
    where
      apart : get_or s.status m 0 ≡ 0 → (j : ℕ) → 1 ≤ get_or s.status j 0 → j ≡ m → ⊥
      apart e j p i = omega (arith, ap (λ i. get_or s.status i 0) i)

  -- the pushes of a leaver, direction by direction
  abbrev pub pushed_to : ℕ → ℕ → Flood H → Flood H
  pushed_to c d s = turns d (λ i. push k g hs c (g.near c (suc i))) s

  pub pushed_to_sized : (c d : ℕ) (s : Flood H) → Sized g.cells s → Sized g.cells (pushed_to c d s)
  unfolding turns
  pushed_to_sized c zero s z = z
  pushed_to_sized c (suc d) s z = push_sized c (g.near c (suc d)) (pushed_to c d s) (pushed_to_sized c d s z)

  pub pushed_to_later : (c d : ℕ) (s : Flood H) → Sized g.cells s → Later k.absent s (pushed_to c d s)
  unfolding turns
  pushed_to_later c zero s z = later_same k.absent s
  pushed_to_later c (suc d) s z =
      later_more (pushed_to_later c d s z) (push_later c (g.near c (suc d)) (pushed_to c d s) (pushed_to_sized c d s z))

  pub pushed_to_order : (c d : ℕ) (s : Flood H) → Sized g.cells s → (pushed_to c d s).order ≡ s.order
  unfolding turns
  pushed_to_order c zero s z = refl
  pushed_to_order c (suc d) s z =
      push_cases (λ t. t.order ≡ s.order) c (g.near c (suc d)) (pushed_to c d s) (pushed_to_sized c d s z) (λ _ _. pushed_to_order c d s z)
      (λ _. pushed_to_order c d s z)

  pub leave_sized : (c : ℕ) (s : Flood H) → Sized g.cells s → Sized g.cells (leave k g hs c s)
  leave_sized c s z = record { status = length-set s.status c 2 ∙ z.status; spill = z.spill; discoverer = z.discoverer }

  leave_later : (c : ℕ) (s : Flood H) → Sized g.cells s → c < g.cells → get_or s.status c 0 ≤ 2 → Later k.absent s (leave k g hs c s)
  leave_later c s z l h = record {
    status = λ j. elim (same_or_not j c) [
      | inl i ↦ omega (arith, ap (λ i. get_or s.status i 0) i, ap (λ i. get_or (set s.status c 2) i 0) i, get_or-set_same s.status c 2 0 (omega (arith, z.status)))
      | inr n ↦ omega (arith, get_or-set_other s.status c j 2 0 n)
    ];
    spill = λ j p. refl;
    discoverer = λ j p. refl;
    rest = c ∷ [];
    order = refl;
  }

  -- one step is one of two things: the least waiting cell leaves, or nobody waits and nothing happens
  pub step_cases :
      (P : Flood H → Type 0) (s : Flood H)
      → ((c : ℕ) → least_waiting k g hs s ≡ c → c < g.cells → P (pushed_to c 8 (leave k g hs c s))) → (least_waiting k g hs s ≡ g.cells → P s) → P (flood_step k g hs s)
  unfolding flood_step push_all
  step_cases P s some none = go (ltb (least_waiting k g hs s) g.cells) refl
    where
      go : (b : Bool) → ltb (least_waiting k g hs s) g.cells ≡ b
          → P (cond b (pushed_to (least_waiting k g hs s) 8 (leave k g hs (least_waiting k g hs s) s)) s)
      go true e = some (least_waiting k g hs s) refl (ltb-true (least_waiting k g hs s) g.cells e)
      go false e = none (omega (arith, (least_waiting_found k g hs s).bound, ltb-false (least_waiting k g hs s) g.cells e))

  -- the cell that leaves next waits
  pub next_waits : (s : Flood H) (c : ℕ) → least_waiting k g hs s ≡ c → c < g.cells → get_or s.status c 0 ≡ 1
  next_waits s c e l =
      eqb-true (get_or s.status c 0) 1 (subst (λ c. c < g.cells → waits k g hs s c ≡ true) e (least_waiting_found k g hs s).one_waits l)

  pub step_sized : (s : Flood H) → Sized g.cells s → Sized g.cells (flood_step k g hs s)
  step_sized s z = step_cases (Sized g.cells) s (λ c e l. pushed_to_sized c 8 (leave k g hs c s) (leave_sized c s z)) (λ _. z)

  pub step_later : (s : Flood H) → Sized g.cells s → Later k.absent s (flood_step k g hs s)
  step_later s z =
      step_cases (Later k.absent s) s
      (λ c e l.
      later_more (leave_later c s z l (omega (arith, next_waits s c e l))) (pushed_to_later c 8 (leave k g hs c s) (leave_sized c s z)))
      (λ _. later_same k.absent s)

  -- the first state, and one more
  pub flood_after_none : flood_after k g hs 0 ≡ flood_start k g hs
  unfolding flood_after turns
  flood_after_none = refl

  pub flood_after_more : (i : ℕ) → flood_after k g hs (suc i) ≡ flood_step k g hs (flood_after k g hs i)
  unfolding flood_after turns
  flood_after_more i = refl

  module _ (many : length hs ≡ g.cells) where
    pub start_sized : Sized g.cells (flood_start k g hs)
    unfolding flood_start
    start_sized = record { status = length_tabulate _ g.cells; spill = many; discoverer = length_tabulate _ g.cells }

    pub flood_after_sized : (i : ℕ) → Sized g.cells (flood_after k g hs i)
    flood_after_sized zero = rw flood_after_none start_sized
    flood_after_sized (suc i) = rw flood_after_more (step_sized (flood_after k g hs i) (flood_after_sized i))

    -- what was pushed after i steps is as it was then after j steps more
    pub flood_after_later : (i j : ℕ) → Later k.absent (flood_after k g hs i) (flood_after k g hs (i + j))
    flood_after_later i zero = subst (λ n. Later k.absent (flood_after k g hs i) (flood_after k g hs n)) (sym (add-zero i)) (later_same k.absent (flood_after k g hs i))
    flood_after_later i (suc j) =
        subst (λ n. Later k.absent (flood_after k g hs i) (flood_after k g hs n)) (sym (add-suc i j))
        (rw flood_after_more (later_more (flood_after_later i j) (step_later (flood_after k g hs (i + j)) (flood_after_sized (i + j)))))
