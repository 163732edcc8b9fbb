-- The scan for the waiting cell with the least place: what it finds, and that it is the only such cell.
use Prim.Native.Nat.{ℕ, zero, suc, ◌+◌, ◌*◌, ◌^◌, ◌≤◌, ◌<◌}
use mathlib.Core.Path.{◌≡◌, refl}
use mathlib.Core.Bool.{Bool, true, false, not, ◌&&◌, ◌||◌, cond}
use mathlib.Core.Logic.{inl, inr}
use mathlib.Core.List.{List}
use native.Mathlib.Nat.{eq-or-lt_of_le, le_antisymm}
use native.Mathlib.Omega.{arith}
use borrow.Author.Tests.{ltb-true, ltb-false}
use lib.Dec.{ltb}
use Rattle.loops.proofs.TestLaws.{clash}
use Rattle.loops.proofs.LoopLaws.{below_suc}
use Rattle.loops.specs.Loops.{turns}
use Rattle.drainage.specs.Ground.{Ground, Kind}
use Rattle.drainage.specs.Flood.{Flood, place, waits, least_waiting}

-- after i turns of a scan over n cells, `best` is the waiting cell below i with the least place, or n
pub record Least (n : ℕ) (waits : ℕ → Bool) (place : ℕ → ℕ) (i best : ℕ) : Type 0 where
  pub bound : best ≤ n
  pub nobody : n ≤ best → (c : ℕ) → c < i → waits c ≡ true → ⊥
  pub one_waits : best < n → waits best ≡ true
  pub least : best < n → (c : ℕ) → c < i → waits c ≡ true → place best ≤ place c

module _ (n : ℕ) (waits : ℕ → Bool) (place : ℕ → ℕ) where
  abbrev taken : ℕ → ℕ → ℕ
  taken c best = cond (waits c && (not (ltb best n) || ltb (place c) (place best))) c best

  least_none : Least n waits place 0 n
  least_none = record {
    bound = omega arith;
    nobody = λ h c l. absurd (no_below c l);
    one_waits = λ h. absurd (no_self h);
    least = λ h. absurd (no_self h);
  }
    where
      no_below : (c : ℕ) → c < 0 → ⊥
      no_below c l = omega arith

      no_self : n < n → ⊥
      no_self l = omega arith

  least_more : (i best : ℕ) → i < n → Least n waits place i best → Least n waits place (suc i) (taken i best)
  least_more i best h l = go (waits i) (ltb best n) (ltb (place i) (place best)) refl refl refl
    where
      new : waits i ≡ true → ((c : ℕ) → c < i → waits c ≡ true → place i ≤ place c) → Least n waits place (suc i) i
      new w low = record {
        bound = omega arith;
        nobody = λ (z : n ≤ i). let f : ⊥ = omega arith in absurd f;
        one_waits = λ _. w;
        least = λ _. below_suc (λ c. waits c ≡ true → place i ≤ place c) i low (λ _. omega arith);
      }

      old :
          (n ≤ best → waits i ≡ true → ⊥) → (best < n → waits i ≡ true → place best ≤ place i) → Least n waits place (suc i) best
      old none low = record {
        bound = l.bound;
        nobody = λ z. below_suc (λ c. waits c ≡ true → ⊥) i (l.nobody z) (none z);
        one_waits = l.one_waits;
        least = λ z. below_suc (λ c. waits c ≡ true → place best ≤ place c) i (l.least z) (low z);
      }

      go :
          (a b d : Bool) → waits i ≡ a → ltb best n ≡ b → ltb (place i) (place best) ≡ d
          → Least n waits place (suc i) (cond (a && (not b || d)) i best)
      go false b d w e q = old (λ _ v. clash v w) (λ _ v. absurd (clash v w))
      go true false d w e q = new w (λ c m v. absurd (l.nobody (ltb-false best n e) c m v))
      go true true true w e q =
          new w (λ c m v. let low : place best ≤ place c = l.least (ltb-true best n e) c m v in omega (arith, ltb-true (place i) (place best) q))
      go true true false w e q =
          old (λ z _. let f : ⊥ = omega (arith, ltb-true best n e) in f) (λ _ _. ltb-false (place i) (place best) q)

  least_scan : (i : ℕ) → i ≤ n → Least n waits place i (turns i taken n)
  unfolding turns
  least_scan zero h = least_none
  least_scan (suc i) h = least_more i (turns i taken n) h (least_scan i (omega arith))

  -- the scan over all cells
  pub least_found : Least n waits place n (turns n taken n)
  least_found = least_scan n (omega arith)

  -- where places differ, the scan finds the cell that waits and has the least place
  pub least_is :
      ((a b : ℕ) → a < n → b < n → place a ≡ place b → a ≡ b) → (c : ℕ) → c < n → waits c ≡ true
      → ((b : ℕ) → b < n → waits b ≡ true → place c ≤ place b) → turns n taken n ≡ c
  least_is apart c l w low = elim (eq-or-lt_of_le found.bound) [
    | inl e ↦ absurd (found.nobody (omega arith) c l w)
    | inr m ↦ apart (turns n taken n) c m l (le_antisymm (found.least m c l w) (low (turns n taken n) m (found.one_waits m)))
  ]
    where
      found : Least n waits place n (turns n taken n)
      found = least_found

  -- where nobody waits, it finds n
  pub least_nobody : ((c : ℕ) → c < n → waits c ≡ true → ⊥) → turns n taken n ≡ n
  least_nobody none = elim (eq-or-lt_of_le least_found.bound) [
    | inl e ↦ e
    | inr m ↦ absurd (none (turns n taken n) m (least_found.one_waits m))
  ]

-- places are apart: cells have 32 bits
pub place_apart : (x y a b : ℕ) → a < 2 ^ 32 → b < 2 ^ 32 → x * 2 ^ 32 + a ≡ y * 2 ^ 32 + b → a ≡ b
place_apart x y a b h l e = omega arith

-- a place that is not above has a key that is not above
pub place_key : (x y a b : ℕ) → b < 2 ^ 32 → x * 2 ^ 32 + a ≤ y * 2 ^ 32 + b → x ≤ y
place_key x y a b l e = omega arith

module _ {H : Type 0} (k : Kind H) (g : Ground) (hs : List H) (s : Flood H) where
  -- the cell that leaves next
  pub least_waiting_found : Least g.cells (waits k g hs s) (place k g hs s) g.cells (least_waiting k g hs s)
  unfolding least_waiting
  least_waiting_found = least_found g.cells (waits k g hs s) (place k g hs s)

  -- a waiting cell whose place no waiting cell is below leaves next
  pub least_waiting_is :
      g.cells ≤ 2 ^ 32 → (c : ℕ) → c < g.cells → waits k g hs s c ≡ true
      → ((b : ℕ) → b < g.cells → waits k g hs s b ≡ true → place k g hs s c ≤ place k g hs s b) → least_waiting k g hs s ≡ c
  unfolding least_waiting
  least_waiting_is few = least_is g.cells (waits k g hs s) (place k g hs s) (λ a b h l e. place_apart _ _ a b (omega arith) (omega arith) e)

  pub least_waiting_nobody : ((c : ℕ) → c < g.cells → waits k g hs s c ≡ true → ⊥) → least_waiting k g hs s ≡ g.cells
  unfolding least_waiting
  least_waiting_nobody = least_nobody g.cells (waits k g hs s) (place k g hs s)
