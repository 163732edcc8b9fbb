-- 'All heights are finite': what the first bad cell says of the heights before it, and that it is the only such cell.
use Prim.Native.Nat.{ℕ, zero, suc, ◌+◌, ◌≤◌, ◌<◌}
use native.Mathlib.Omega.{arith}
use native.Mathlib.Numerals.{add-one}
use mathlib.Core.Path.{◌≡◌, refl, sym, ◌∙◌, ap, ap₂, subst}
use mathlib.Core.Bool.{Bool, true, false, cond, ◌&&◌, and_assoc, and-true}
use mathlib.Core.List.{List, [], ◌∷◌, ◌++◌}
use lib.ListN.{length, get_or}
use lib.Dec.{eqb, eqb-suc-suc, eqb-zero-suc}
use lib.Ieee.{Float, nan}
use lib.Ieee.Scale.{finite}
use borrow.Author.Tests.{eq-eqb, ne_eqb, eqb-true}
use Rattle.loops.specs.Loops.{tabulate}
use Rattle.std.specs.declared.option.Option.{Option}
use Rattle.std.specs.declared.option.Option.TheVariants.{Some, None}
use Rattle.loops.specs.Loops.{place_among}
use Rattle.loops.proofs.PlaceLaws.{place_here, place_past, place_some, place_none}
use Rattle.loops.proofs.LoopLaws.{at_end, below_suc}
use Rattle.loops.proofs.TableLaws.{tabulate_get_d}
use Rattle.grid.specs.Heights.{first_not_finite, all_finite, FiniteBelow, FirstBad}

pub below_none : (hs : List Float) (n : ℕ) → n ≤ 0 → FiniteBelow hs n
below_none hs n h = record { each = λ i l. absurd (omega arith) }

pub below_less : {hs : List Float} {n m : ℕ} → m ≤ n → FiniteBelow hs n → FiniteBelow hs m
below_less h p = record { each = λ i l. p.each i (omega arith) }

pub below_more : {hs : List Float} {n m : ℕ} → m ≤ suc n → FiniteBelow hs n → finite (get_or hs n nan) ≡ true → FiniteBelow hs m
below_more {hs} {n} h p e = record { each = λ i l. below_suc (λ k. finite (get_or hs k nan) ≡ true) n p.each e i (omega arith) }

pub below_cons : {x : Float} {xs : List Float} {n : ℕ} → finite x ≡ true → FiniteBelow xs n → FiniteBelow (x ∷ xs) (suc n)
below_cons {x} {xs} {n} e p = record { each = go }
  where
    go : (i : ℕ) → i < suc n → finite (get_or (x ∷ xs) i nan) ≡ true
    go zero l = e
    go (suc i) l = p.each i (omega arith)

pub below_tail : {x : Float} {xs : List Float} {n : ℕ} → FiniteBelow (x ∷ xs) (suc n) → FiniteBelow xs n
below_tail p = record { each = λ i l. p.each (suc i) (omega arith) }

cons_finite : (x : Float) (xs : List Float) → finite x ≡ true → first_not_finite (x ∷ xs) ≡ suc (first_not_finite xs)
unfolding first_not_finite
cons_finite x xs e = rw e

cons_bad : (x : Float) (xs : List Float) → finite x ≡ false → first_not_finite (x ∷ xs) ≡ 0
unfolding first_not_finite
cons_bad x xs e = rw e

-- the only place that is not finite and has none such before it
pub first_at : {hs : List Float} {c : ℕ} → FirstBad hs c → first_not_finite hs ≡ c
first_at {hs} {c} f = go hs c f.place f.bad f.earlier
  where
    go : (l : List Float) (c : ℕ) → c < length l → finite (get_or l c nan) ≡ false → FiniteBelow l c → first_not_finite l ≡ c
    go [] c l e p = absurd (omega arith)
    go (x ∷ xs) zero l e p = cons_bad x xs e
    go (x ∷ xs) (suc c) l e p = cons_finite x xs (p.each 0 (omega arith)) ∙ ap suc (go xs c (omega arith) e (below_tail p))

pub first_none : (hs : List Float) → FiniteBelow hs (length hs) → first_not_finite hs ≡ length hs
unfolding first_not_finite
first_none [] p = refl
first_none (x ∷ xs) p = cons_finite x xs (p.each 0 (omega arith)) ∙ ap suc (first_none xs (below_tail p))

pub first_le : (hs : List Float) → first_not_finite hs ≤ length hs
unfolding first_not_finite
first_le [] = omega arith
first_le (x ∷ xs) = go (finite x) (first_le xs)
  where
    go : (b : Bool) → first_not_finite xs ≤ length xs → cond b (suc (first_not_finite xs)) 0 ≤ suc (length xs)
    go true h = omega arith
    go false h = omega arith

-- every height before the first bad one is finite
pub first_below : (hs : List Float) → FiniteBelow hs (first_not_finite hs)
unfolding first_not_finite
first_below [] = below_none [] 0 (omega arith)
first_below (x ∷ xs) = go (finite x) refl (first_below xs)
  where
    go : (b : Bool) → finite x ≡ b → FiniteBelow xs (first_not_finite xs) → FiniteBelow (x ∷ xs) (cond b (suc (first_not_finite xs)) 0)
    go true e p = below_cons e p
    go false e p = below_none (x ∷ xs) 0 (omega arith)

-- all heights are finite exactly if none is the first bad one
pub below_all : {hs : List Float} → FiniteBelow hs (length hs) → all_finite hs ≡ true
unfolding all_finite
below_all {hs} p = eq-eqb _ _ (first_none hs p)

pub all_below : (hs : List Float) → all_finite hs ≡ true → FiniteBelow hs (length hs)
unfolding all_finite
all_below hs e = below_less (omega (arith, eqb-true (first_not_finite hs) (length hs) e)) (first_below hs)

pub all_at : (hs : List Float) → all_finite hs ≡ true → (i : ℕ) → i < length hs → finite (get_or hs i nan) ≡ true
all_at hs e = (all_below hs e).each

-- what the search for a bad height gives says whether there is one
module _ (hs : List Float) {r : Option ℕ} (e : r ≡ place_among (length hs) (first_not_finite hs)) where
  pub no_bad_height : r ≡ None → all_finite hs ≡ true
  unfolding all_finite
  no_bad_height s = eq-eqb _ _ (omega (arith, place_none {n = length hs} {c = first_not_finite hs} (sym e ∙ s), first_le hs))

  module _ {c : ℕ} (s : r ≡ Some c) where
    pub bad_height : all_finite hs ≡ false
    unfolding all_finite
    bad_height = ne_eqb _ _ (λ q. omega (arith, (place_some {n = length hs} {c = first_not_finite hs} (sym e ∙ s)).1, q))

    pub bad_height_is : c ≡ first_not_finite hs
    bad_height_is = (place_some {n = length hs} {c = first_not_finite hs} (sym e ∙ s)).0

-- and a search that ends at the first bad height, or behind the last one, gives it
pub bad_place : (hs : List Float) (n : ℕ) {c : ℕ} → c < n → c ≡ first_not_finite hs → Some c ≡ place_among n (first_not_finite hs)
bad_place hs n l e = subst (λ (k : ℕ). Some k ≡ place_among n (first_not_finite hs)) (sym e) (place_here (omega (arith, l, e)))

pub no_bad_place : (hs : List Float) (n : ℕ) {m : ℕ} → n ≤ m → m ≡ first_not_finite hs → None ≡ place_among n (first_not_finite hs)
no_bad_place hs n l e = place_past (omega (arith, l, e))

pub all_finite_lem : (hs : List Float) (c : ℕ) → c ≡ first_not_finite hs → c ≡ length hs → all_finite hs ≡ true
unfolding all_finite
all_finite_lem hs c e h = eq-eqb _ _ (sym e ∙ h)

pub not_all_finite : (hs : List Float) (c : ℕ) → c ≡ first_not_finite hs → (c ≡ length hs → ⊥) → all_finite hs ≡ false
unfolding all_finite
not_all_finite hs c e h = ne_eqb _ _ (λ q. h (e ∙ q))

pub all_cons : (x : Float) (xs : List Float) → all_finite (x ∷ xs) ≡ (finite x && all_finite xs)
unfolding all_finite first_not_finite
all_cons x xs = go (finite x)
  where
    go : (b : Bool) → eqb (cond b (suc (first_not_finite xs)) 0) (suc (length xs)) ≡ (b && eqb (first_not_finite xs) (length xs))
    go true = eqb-suc-suc (first_not_finite xs) (length xs)
    go false = eqb-zero-suc (length xs)

pub all_append : (xs ys : List Float) → all_finite (xs ++ ys) ≡ (all_finite xs && all_finite ys)
unfolding all_finite first_not_finite
all_append [] ys = refl
all_append (x ∷ xs) ys =
    all_cons x (xs ++ ys)
    ∙ ap (λ (b : Bool). finite x && b) (all_append xs ys)
    ∙ sym (and_assoc (finite x) (all_finite xs) (all_finite ys))
    ∙ ap (λ (b : Bool). b && all_finite ys) (sym (all_cons x xs))

-- a loop that looks at values f 0, f 1, … one after the other
pub all_none : (f : ℕ → Float) → true ≡ all_finite (tabulate 0 f)
unfolding tabulate all_finite first_not_finite
all_none f = refl

pub all_more : (f : ℕ → Float) (i : ℕ) {good next : Bool} → good ≡ all_finite (tabulate i f) → next ≡ finite (f i) → (good && next) ≡ all_finite (tabulate (i + 1) f)
unfolding tabulate all_finite
all_more f i e g =
    ap₂ ◌&&◌ e (g ∙ sym (all_one (f i))) ∙ sym (all_append (tabulate i f) (f i ∷ [])) ∙ ap (λ (n : ℕ). all_finite (tabulate n f)) (sym (add-one i))
  where
    all_one : (x : Float) → all_finite (x ∷ []) ≡ finite x
    all_one x = all_cons x [] ∙ and-true (finite x)

pub all_done : (hs : List Float) (i : ℕ) {good : Bool} → good ≡ all_finite (tabulate i (λ k. get_or hs k nan)) → i ≤ length hs → length hs ≤ i → good ≡ all_finite hs
all_done hs i e a b = at_end (λ (n : ℕ). all_finite (tabulate n (λ k. get_or hs k nan))) e a b ∙ ap all_finite (tabulate_get_d hs nan)
