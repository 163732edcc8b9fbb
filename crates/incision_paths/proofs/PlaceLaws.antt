-- Along a way down the places of its cells in a work list fall, so that no way comes back to a cell or has more cells than there are.
use Prim.Native.Nat.{ℕ, suc, ◌<◌}
use native.Mathlib.Omega.{arith}
use mathlib.Core.Path.{◌≡◌, refl, ap, ◌∙◌}
use mathlib.Core.Bool.{Bool, true, false, cond}
use mathlib.Core.List.{List, [], ◌∷◌, ◌++◌}
use lib.ListN.{length, get_or, length-append}
use lib.Dec.{eqb}
use borrow.Author.Tests.{eq-eqb}
use Rattle.loops.specs.Counts.{times}
use Rattle.drainage.specs.Ways.{WorkList}
use Rattle.loops.proofs.CountLaws.{bit, times_here}
use Rattle.drainage.proofs.WorkListLaws.{split, entry_of, list_length}

-- how many entries of a list stand before cell c
unfoldable pub place_in : List ℕ → ℕ → ℕ
place_in [] c = 0
place_in (a ∷ l) c = cond (eqb a c) 0 (suc (place_in l c))

-- a cell that does not stand in the first part of a list has its place behind it
place_behind : (c : ℕ) (before rest : List ℕ) → times c before ≡ 0 → place_in (before ++ (c ∷ rest)) c ≡ length before
unfolding place_in times
place_behind c [] rest h = ap (λ (b : Bool). cond b 0 (suc (place_in rest c))) (eq-eqb c c refl)
place_behind c (a ∷ before) rest h = go (place_behind c before rest) (eqb a c) refl
  where
    go : (times c before ≡ 0 → place_in (before ++ (c ∷ rest)) c ≡ length before) → (b : Bool) → eqb a c ≡ b → cond (eqb a c) 0 (suc (place_in (before ++ (c ∷ rest)) c)) ≡ suc (length before)
    go ih true e = absurd (omega (arith, ap bit e))
    go ih false e = ap (λ (b : Bool). cond b 0 (suc (place_in (before ++ (c ∷ rest)) c))) e ∙ ap suc (ih (omega (arith, ap bit e)))

-- a cell that stands there has its place in it
place_among : (c : ℕ) (before rest : List ℕ) → 0 < times c before → place_in (before ++ rest) c < length before
unfolding place_in times
place_among c [] rest h = absurd (omega arith)
place_among c (a ∷ before) rest h = go (place_among c before rest) (eqb a c) refl
  where
    go : (0 < times c before → place_in (before ++ rest) c < length before) → (b : Bool) → eqb a c ≡ b → cond (eqb a c) 0 (suc (place_in (before ++ rest) c)) < suc (length before)
    go ih true e = omega (arith, ap (λ (b : Bool). cond b 0 (suc (place_in (before ++ rest) c))) e)
    go ih false e = omega (arith, ap (λ (b : Bool). cond b 0 (suc (place_in (before ++ rest) c))) e, ih (omega (arith, ap bit e)))

-- a number of each of n cells, below n, that falls from a cell to its receiver
pub record Falls (n : ℕ) (recv : List ℕ) (place : ℕ → ℕ) : Type 0 where
  pub lower : (c : ℕ) → c < n → (get_or recv c 0 ≡ c → ⊥) → place (get_or recv c 0) < place c
  pub few : (c : ℕ) → c < n → place c < n

-- the place in a work list is such a number
pub falls : {n : ℕ} {recv list : List ℕ} → WorkList n recv list → Falls n recv (place_in list)
falls {n} {recv} {list} w = record { lower = lower; few = few }
  where
    at : (c : ℕ) (before rest : List ℕ) → c < n → list ≡ before ++ (c ∷ rest) → place_in list c ≡ length before
    at c before rest l e = ap (λ (l : List ℕ). place_in l c) e ∙ place_behind c before rest (omega (arith, split w c before c rest e, times_here c rest, w.once c l))

    lower : (c : ℕ) → c < n → (get_or recv c 0 ≡ c → ⊥) → place_in list (get_or recv c 0) < place_in list c
    lower c l other =
        let s = entry_of w c l in
        omega (arith, at c s.before s.rest l s.is, ap (λ (l : List ℕ). place_in l (get_or recv c 0)) s.is, place_among (get_or recv c 0) s.before (c ∷ s.rest) (w.after s.before c s.rest s.is other))

    few : (c : ℕ) → c < n → place_in list c < n
    few c l =
        let s = entry_of w c l in
        omega (arith, at c s.before s.rest l s.is, ap length s.is ∙ length-append s.before (c ∷ s.rest), list_length w)
