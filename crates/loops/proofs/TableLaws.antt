-- Laws of `tabulate`, and of a loop that stores f 0, f 1, … into a list from the front: after i turns it holds `filled i`.
use Prim.Native.Nat.{ℕ, zero, suc, ◌+◌, ◌-◌, ◌≤◌, ◌<◌}
use mathlib.Core.Path.{◌≡◌, refl, sym, ap, ap₂, ◌∙◌, subst}
use mathlib.Core.Logic.{inl, inr}
use mathlib.Core.List.{List, [], ◌∷◌, ◌++◌, append_assoc, append-nil}
use native.Mathlib.Nat.{eq-or-lt_of_le, le_of_suc-le-suc, le_of_eq, add-sub_of_le}
use native.Mathlib.Decide.{dec_lt}
use native.Mathlib.Numerals.{add-one}
use native.Mathlib.Omega.{arith}
use lib.ListN.{length, get_or, drop, set, length-append, length-drop, drop_of_length-le, get_or-append}
use lib.Seq.{drop-cons, set_at, get_or_at, get_or-append-add, get_or-drop, ext_get_or}
use Rattle.loops.specs.Loops.{tabulate}

module _ {A : Type 0} (f : ℕ → A) where
  pub length_tabulate : (n : ℕ) → length (tabulate n f) ≡ n
  unfolding tabulate
  length_tabulate zero = refl
  length_tabulate (suc n) = length-append (tabulate n f) (f n ∷ []) ∙ ap (λ (k : ℕ). k + 1) (length_tabulate n) ∙ add-one n

  pub get_d_tabulate : (n i : ℕ) (d : A) → i < n → get_or (tabulate n f) i d ≡ f i
  unfolding tabulate
  get_d_tabulate zero i d h = let z : ⊥ = omega arith in absurd z
  get_d_tabulate (suc n) i d h = elim (eq-or-lt_of_le (le_of_suc-le-suc h)) [
    | inl e ↦ ap (λ (k : ℕ). get_or (tabulate n f ++ (f n ∷ [])) k d) e ∙ get_or_at (tabulate n f) (f n) [] d n (length_tabulate n) ∙ ap f (sym e)
    | inr l ↦ get_or-append (tabulate n f) (f n ∷ []) d i (subst (λ (k : ℕ). i < k) (sym (length_tabulate n)) l) ∙ get_d_tabulate n i d l
  ]

  -- the list that a loop which stores f i at each i holds after i turns
  abbrev pub filled : ℕ → List A → List A
  filled i old = tabulate i f ++ drop i old

  pub filled_none : (old : List A) → old ≡ filled 0 old
  unfolding tabulate
  filled_none old = refl

  pub filled_length : (i : ℕ) (old : List A) → i ≤ length old → length (filled i old) ≡ length old
  filled_length i old h =
      length-append (tabulate i f) (drop i old) ∙ ap₂ (λ (x y : ℕ). x + y) (length_tabulate i) (length-drop i old) ∙ add-sub_of_le h

  pub filled_more : (i : ℕ) (old : List A) → i < length old → set (filled i old) i (f i) ≡ filled (i + 1) old
  unfolding tabulate
  filled_more i old h =
      ap (λ (l : List A). set (tabulate i f ++ l) i (f i)) (drop-cons old i (f i) h)
      ∙ set_at (tabulate i f) (get_or old i (f i)) (drop (suc i) old) (f i) i (length_tabulate i)
      ∙ sym (append_assoc (tabulate i f) (f i ∷ []) (drop (suc i) old))
      ∙ ap (λ (n : ℕ). filled n old) (sym (add-one i))

  pub filled_done : (n : ℕ) (old : List A) → length old ≡ n → filled n old ≡ tabulate n f
  filled_done n old e = ap (λ (l : List A). tabulate n f ++ l) (drop_of_length-le old (le_of_eq e)) ∙ append-nil (tabulate n f)

  -- what the loop has stored is read
  pub filled_at : (n : ℕ) (old : List A) (i : ℕ) (d : A) → i < n → get_or (filled n old) i d ≡ f i
  filled_at n old i d l =
      get_or-append (tabulate n f) (drop n old) d i (subst (λ (k : ℕ). i < k) (sym (length_tabulate n)) l) ∙ get_d_tabulate n i d l

  pub filled_read : (n : ℕ) (old : List A) {new : List A} → new ≡ filled n old → (i : ℕ) (d : A) → i < n → get_or new i d ≡ f i
  filled_read n old e i d l = ap (λ (t : List A). get_or t i d) e ∙ filled_at n old i d l

  -- what the loop has not reached yet is as it was
  pub filled_ahead : (i j : ℕ) (old : List A) (d : A) → i ≤ j → get_or (filled i old) j d ≡ get_or old j d
  filled_ahead i j old d h =
      let e : j ≡ i + (j - i) = omega arith in
      ap (λ (k : ℕ). get_or (filled i old) k d) (e ∙ ap (λ (k : ℕ). k + (j - i)) (sym (length_tabulate i)))
      ∙ get_or-append-add (tabulate i f) (drop i old) (j - i) d
      ∙ get_or-drop i old (j - i) d
      ∙ ap (λ (k : ℕ). get_or old k d) (sym e)

  -- a list that holds the first n values already is what the loop leaves of it
  pub filled_already : (n : ℕ) (old : List A) (d : A) → n ≤ length old → ((i : ℕ) → i < n → get_or old i d ≡ f i) → old ≡ filled n old
  filled_already n old d h e = ext_get_or d old (filled n old) (sym (filled_length n old h)) (λ i _. go i (dec_lt i n))
    where
      go : (i : ℕ) → Dec (i < n) → get_or old i d ≡ get_or (filled n old) i d
      go i (yes l) = e i l ∙ sym (filled_at n old i d l)
      go i (no l) = sym (filled_ahead n i old d (omega arith))

pub tabulate_same : {A : Type 0} (f g : ℕ → A) (n : ℕ) → ((i : ℕ) → i < n → f i ≡ g i) → tabulate n f ≡ tabulate n g
unfolding tabulate
tabulate_same f g zero h = refl
tabulate_same f g (suc n) h = ap₂ (λ l x. l ++ (x ∷ [])) (tabulate_same f g n (λ i l. h i (omega arith))) (h n (omega arith))

-- a list is what its indexes say
pub tabulate_get_d : {A : Type 0} (l : List A) (d : A) → tabulate (length l) (λ i. get_or l i d) ≡ l
tabulate_get_d l d =
    ext_get_or d (tabulate (length l) (λ i. get_or l i d)) l (length_tabulate (λ i. get_or l i d) (length l))
    (λ i h. get_d_tabulate (λ i. get_or l i d) (length l) i d (subst (λ (k : ℕ). i < k) (length_tabulate (λ i. get_or l i d) (length l)) h))
