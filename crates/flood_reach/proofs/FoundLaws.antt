-- Reaching only the neighbours that have not been pushed is reaching all of them.
use Prim.Native.Nat.{ℕ, zero, suc, ◌+◌, ◌≤◌, ◌<◌}
use mathlib.Core.Path.{◌≡◌, refl, sym, ap, ◌∙◌, subst}
use mathlib.Core.Bool.{Bool, true, false, cond}
use mathlib.Core.Logic.{inl, inr}
use mathlib.Core.List.{List, [], ◌∷◌, ◌++◌, append-nil}
use native.Mathlib.Numerals.{add-one}
use native.Mathlib.Decide.{dec_lt}
use native.Mathlib.Omega.{arith}
use lib.Dec.{eqb}
use lib.ListN.{length, get_or, set, take, length-set, get_or-eq_default}
use lib.Seq.{get_or-set_same, get_or-set_other, take-suc-set, take-set-le}
use borrow.Author.Tests.{ne_eqb, eqb-false}
use Rattle.loops.specs.Loops.{turns, tabulate}
use Rattle.drainage.specs.Ground.{Ground, Kind}
use Rattle.drainage.specs.Flood.{Flood, push, pushed}
use Rattle.loops.proofs.TestLaws.{same_or_not}
use Rattle.drainage.proofs.KeptLaws.{get_d_inside, pushed_to}
use Rattle.flood_reach.specs.Reaches.{pushed_by, unpushed_to, Found}

-- none yet, and one neighbour more: m, whose status is v
pub found_none : (near : ℕ → ℕ) (status found : List ℕ) → length found ≡ 8 → Found near status 0 0 found
unfolding unpushed_to
found_none near status found l = record { few = omega arith; long = l; cells = refl }

pub found_more :
    (near : ℕ → ℕ) (status : List ℕ) (d some k m : ℕ) (found : List ℕ) → Found near status d some found → d < 8 → m ≡ near (d + 1)
    → m < length status → k ≡ cond (eqb (get_or status m 0) 0) 1 0 → Found near status (d + 1) (some + k) (set found some m)
unfolding unpushed_to
found_more near status d some k m found f u e i s = go (eqb (get_or status m 0) 0) refl s
  where
    l : some < length found
    l = omega (arith, f.few, f.long)

    at : m ≡ near (suc d)
    at = e ∙ ap near (add-one d)

    same : eqb (get_or status m 0) 0 ≡ eqb (get_or status (near (suc d)) 1) 0
    same = ap (λ v. eqb v 0) (get_d_inside status m 0 1 i ∙ ap (λ m. get_or status m 1) at)

    cells : (b : Bool) → eqb (get_or status m 0) 0 ≡ b → take some found ++ cond b (m ∷ []) [] ≡ unpushed_to near status (d + 1)
    cells b t =
        ap (λ l. l ++ cond b (m ∷ []) []) f.cells
        ∙ ap (λ m. unpushed_to near status d ++ cond b (m ∷ []) []) at
        ∙ ap (λ b. unpushed_to near status d ++ cond b (near (suc d) ∷ []) []) (sym t ∙ same)
        ∙ ap (unpushed_to near status) (sym (add-one d))

    go : (b : Bool) → eqb (get_or status m 0) 0 ≡ b → k ≡ cond b 1 0 → Found near status (d + 1) (some + k) (set found some m)
    go true t z = record {
      few = omega (arith, f.few);
      long = length-set found some m ∙ f.long;
      cells = ap (λ n. take n (set found some m)) (ap (λ n. some + n) z ∙ add-one some) ∙ take-suc-set found some m l ∙ cells true t;
    }
    go false t z =
        let all : some + k ≡ some = omega arith in
        record {
          few = omega (arith, f.few);
          long = length-set found some m ∙ f.long;
          cells = ap (λ n. take n (set found some m)) all ∙ take-set-le some found some m (omega arith) ∙ sym (append-nil (take some found)) ∙ cells false t;
        }

pub found_done : (near : ℕ → ℕ) (status : List ℕ) (d some : ℕ) (found : List ℕ) → d ≤ 8 → 8 ≤ d → Found near status d some found → Found near status 8 some found
found_done near status d some found a b f = let all : d ≡ 8 = omega arith in subst (λ d. Found near status d some found) all f

pub found_fits : (status : List ℕ) (m k : ℕ) → k ≡ cond (eqb (get_or status m 0) 0) 1 0 → k ≤ 1
found_fits status m k = go (eqb (get_or status m 0) 0)
  where
    go : (b : Bool) → k ≡ cond b 1 0 → k ≤ 1
    go true e = omega arith
    go false e = omega arith

module _ {H : Type 0} (k : Kind H) (g : Ground) (hs : List H) (c : ℕ) where
  pub pushed_by_more : (l : List ℕ) (m : ℕ) (s : Flood H) → pushed_by k g hs c (l ++ (m ∷ [])) s ≡ push k g hs c m (pushed_by k g hs c l s)
  unfolding pushed_by
  pushed_by_more [] m s = refl
  pushed_by_more (x ∷ l) m s = pushed_by_more l m (push k g hs c x s)

  -- all the neighbours
  pub pushed_by_near : (d : ℕ) (s : Flood H) → pushed_by k g hs c (tabulate d (λ i. g.near c (suc i))) s ≡ pushed_to k g hs c d s
  unfolding turns tabulate pushed_by
  pushed_by_near zero s = refl
  pushed_by_near (suc d) s = pushed_by_more (tabulate d (λ i. g.near c (suc i))) (g.near c (suc d)) s ∙ ap (push k g hs c (g.near c (suc d))) (pushed_by_near d s)

  -- a cell that has been pushed stays so
  stays_pushed : (m j : ℕ) (s : Flood H) → (get_or s.status m 1 ≡ 0 → ⊥) → get_or (push k g hs c j s).status m 1 ≡ 0 → ⊥
  stays_pushed m j s n = go (eqb (get_or s.status j 1) 0)
    where
      stored : get_or (set s.status j 1) m 1 ≡ 0 → ⊥
      stored z = elim (same_or_not m j) [
        | inl e ↦ elim (dec_lt m (length s.status)) [
          | yes l ↦ let no : ⊥ = omega (arith, get_or-set_same s.status m 1 1 l, ap (λ j. get_or (set s.status j 1) m 1) e) in absurd no
          | no l ↦ let no : ⊥ = omega (arith, get_or-eq_default (set s.status j 1) 1 {n = m} (omega (arith, length-set s.status j 1))) in absurd no
        ]
        | inr e ↦ n (sym (get_or-set_other s.status j m 1 1 e) ∙ z)
      ]

      go : (b : Bool) → get_or (cond b (pushed k g hs c j s) s).status m 1 ≡ 0 → ⊥
      go true z = stored z
      go false z = n z

  stays_to : (m d : ℕ) (s : Flood H) → (get_or s.status m 1 ≡ 0 → ⊥) → get_or (pushed_to k g hs c d s).status m 1 ≡ 0 → ⊥
  unfolding turns
  stays_to m zero s n = n
  stays_to m (suc d) s n = stays_pushed m (g.near c (suc d)) (pushed_to k g hs c d s) (stays_to m d s n)

  -- so reaching it again does nothing
  pub unpushed_all : (d : ℕ) (s : Flood H) → pushed_by k g hs c (unpushed_to (g.near c) s.status d) s ≡ pushed_to k g hs c d s
  unfolding turns unpushed_to pushed_by
  unpushed_all zero s = refl
  unpushed_all (suc d) s = go (eqb (get_or s.status (g.near c (suc d)) 1) 0) refl (unpushed_all d s)
    where
      m : ℕ
      m = g.near c (suc d)

      t : Flood H
      t = pushed_to k g hs c d s

      go : (b : Bool) → eqb (get_or s.status m 1) 0 ≡ b → pushed_by k g hs c (unpushed_to (g.near c) s.status d) s ≡ t
          → pushed_by k g hs c (unpushed_to (g.near c) s.status d ++ cond b (m ∷ []) []) s ≡ push k g hs c m t
      go true e h = pushed_by_more (unpushed_to (g.near c) s.status d) m s ∙ ap (push k g hs c m) h
      go false e h =
          ap (λ l. pushed_by k g hs c l s) (append-nil (unpushed_to (g.near c) s.status d)) ∙ h
          ∙ sym (ap (λ b. cond b (pushed k g hs c m t) t) (ne_eqb (get_or t.status m 1) 0 (stays_to m d s (eqb-false (get_or s.status m 1) 0 e))))
