-- What a work list is, entry by entry: its entries are cells, each stands once and its receiver before it, and there are n of them.
use Prim.Native.Nat.{ℕ, zero, suc, ◌+◌, ◌≤◌, ◌<◌}
use mathlib.Core.Path.{◌≡◌, refl, sym, ap, ◌∙◌, subst}
use mathlib.Core.Logic.{◌⊎◌, inl, inr}
use mathlib.Core.Bool.{Bool, true, false}
use mathlib.Core.List.{List, [], ◌∷◌, ◌++◌}
use native.Mathlib.Nat.{lt_of_not-le}
use native.Mathlib.Numerals.{one-add}
use native.Mathlib.Omega.{arith}
use lib.Dec.{eqb}
use lib.ListN.{length, get_or}
use borrow.Author.Tests.{eqb-true, eqb-false}
use Rattle.loops.specs.Counts.{times, sum_below}
use Rattle.drainage.specs.Ways.{WorkList}
use Rattle.loops.proofs.CountLaws.{bit, sum_same, sum_on, sum_zero, times_append, times_here}
use Rattle.drainage.proofs.TrailLaws.{Downstream}

-- where a cell stands in a list
pub record Stands (c : ℕ) (l : List ℕ) : Type 0 where
  pub before : List ℕ
  pub rest : List ℕ
  pub is : l ≡ before ++ (c ∷ rest)

pub stands : (c : ℕ) (l : List ℕ) → 0 < times c l → Stands c l
unfolding times
stands c [] p = let v : ⊥ = omega arith in absurd v
stands c (a ∷ l) p = go (stands c l) (eqb a c) refl
  where
    go : (0 < times c l → Stands c l) → (b : Bool) → eqb a c ≡ b → Stands c (a ∷ l)
    go ih true e = record { before = []; rest = l; is = ap (λ x. x ∷ l) (eqb-true a c e) }
    go ih false e =
        let s : Stands c l = ih (omega (arith, ap bit e)) in
        record { before = a ∷ s.before; rest = s.rest; is = ap (λ x. a ∷ x) s.is }

times_tail : (x c : ℕ) (rest : List ℕ) → times x rest ≤ times x (c ∷ rest)
unfolding times
times_tail x c rest = omega arith

-- a list holds each of its cells as often as the counts say, so its length is their sum
pub length_is : (n : ℕ) (l : List ℕ) → ((c : ℕ) → 0 < times c l → c < n) → sum_below n (λ c. true) (λ c. times c l) ≡ length l
unfolding times
length_is n [] below = sum_zero n (λ c. true)
length_is n (a ∷ l) below =
    sum_on n (λ c. true) a (λ c. times c l) (below a (omega (arith, times_here a l))) refl
    ∙ ap (λ (x : ℕ). 1 + x) (length_is n l (λ c p. below c (omega (arith, times_tail c a l))))
    ∙ one-add (length l)

sum_ones : (n : ℕ) → sum_below n (λ c. true) (λ c. 1) ≡ n
unfolding sum_below
sum_ones zero = refl
sum_ones (suc n) = omega (arith, sum_ones n)

-- a list in which no number from n on stands
pub below_of : {n : ℕ} (list : List ℕ) → ((c : ℕ) → n ≤ c → times c list ≡ 0) → (x : ℕ) → 0 < times x list → x < n
below_of list only x p = lt_of_not-le (λ l. let v : ⊥ = omega (arith, only x l) in v)

module _ {n : ℕ} {recv list : List ℕ} (w : WorkList n recv list) where
  pub split : (x : ℕ) (before : List ℕ) (c : ℕ) (rest : List ℕ) → list ≡ before ++ (c ∷ rest) → times x list ≡ times x before + times x (c ∷ rest)
  split x before c rest e = ap (times x) e ∙ times_append x before (c ∷ rest)

  pub in_lt : (x : ℕ) → 0 < times x list → x < n
  in_lt = below_of list w.only

  pub entry_lt : (before : List ℕ) (c : ℕ) (rest : List ℕ) → list ≡ before ++ (c ∷ rest) → c < n
  entry_lt before c rest e = in_lt c (omega (arith, split c before c rest e, times_here c rest))

  pub entry_of : (c : ℕ) → c < n → Stands c list
  entry_of c h = stands c list (omega (arith, w.once c h))

  -- the receiver of an entry is its cell, or stands before it
  pub own_or_before : (before : List ℕ) (c : ℕ) (rest : List ℕ) → list ≡ before ++ (c ∷ rest) → (get_or recv c 0 ≡ c) ⊎ (0 < times (get_or recv c 0) before)
  own_or_before before c rest e = go (eqb (get_or recv c 0) c) refl
    where
      go : (b : Bool) → eqb (get_or recv c 0) c ≡ b → (get_or recv c 0 ≡ c) ⊎ (0 < times (get_or recv c 0) before)
      go true t = inl (eqb-true (get_or recv c 0) c t)
      go false t = inr (w.after before c rest e (eqb-false (get_or recv c 0) c t))

  pub receiver_lt : (c : ℕ) → c < n → get_or recv c 0 < n
  receiver_lt c h =
      let s : Stands c list = entry_of c h in
      elim (own_or_before s.before c s.rest s.is) [
        | inl e ↦ subst (λ (x : ℕ). x < n) (sym e) h
        | inr p ↦ in_lt (get_or recv c 0) (omega (arith, split (get_or recv c 0) s.before c s.rest s.is))
      ]

  -- an entry stands once, and its receiver not behind it
  pub downstream : Downstream (λ c. get_or recv c 0) list
  downstream = record { once = once; behind = behind }
    where
      once : (before : List ℕ) (c : ℕ) (rest : List ℕ) → list ≡ before ++ (c ∷ rest) → times c rest ≡ 0
      once before c rest e = omega (arith, split c before c rest e, times_here c rest, w.once c (entry_lt before c rest e))

      behind : (before : List ℕ) (c : ℕ) (rest : List ℕ) → list ≡ before ++ (c ∷ rest) → times (get_or recv c 0) rest ≡ 0
      behind before c rest e =
          elim (own_or_before before c rest e) [
            | inl own ↦ ap (λ (x : ℕ). times x rest) own ∙ once before c rest e
            | inr p ↦ omega (arith, split (get_or recv c 0) before c rest e, times_tail (get_or recv c 0) c rest, w.once (get_or recv c 0) (receiver_lt c (entry_lt before c rest e)))
          ]

  pub list_length : length list ≡ n
  list_length =
      sym (length_is n list in_lt)
      ∙ sum_same n (λ c. true) (λ c. times c list) (λ c. 1) (λ c h t. w.once c h)
      ∙ sum_ones n
