-- A refusal gives nothing; what is given has passed every test before it; and one choice of a refusal decides answer and slices alike.
use Rattle.std.specs.declared.result.Result.TheVariants.{Err}
use Rattle.answers.specs.Outcome.{Answer}
use Prim.Native.Nat.{ℕ, ◌<◌}
use native.Mathlib.Omega.{arith}
use mathlib.Core.Path.{◌≡◌, refl, sym, ap, ◌∙◌}
use mathlib.Core.Bool.{Bool, true, false, cond, false≢true}
use Rattle.loops.proofs.TestLaws.{clash, not_first, not_second}
use Rattle.answers.specs.Outcome.{Outcome, gives, refused, refused_at, refusal_of, answer_of, given, number_of, place_of}
use Rattle.answers.specs.declared.Refusal.{Refusal}
use Rattle.answers.specs.declared.Refusal.TheVariants.{Side, ReducedSide, Length, Setting, Height, Receiver, List, Stream, Cells, Stopped, RunOff, Row, Spacings, NoCell, NoBase, Metres, Tiles}

-- what holds of the outcomes refused by a number alone and of those that carry a place, whatever they would give, holds of every refusal, with its number and place
pub refusal_by_lem : (P : ((A : Type 0) → Outcome A) → ℕ → ℕ → Type 0) → ((n : ℕ) → n < 37 → P (λ A. refused n) n 0) → ((n p : ℕ) → n < 37 → P (λ A. refused_at n p) n p)
    → (r : Refusal) → P (λ A. refusal_of r) (number_of r) (place_of r)
refusal_by_lem P alone at Side = alone 1 (omega arith)
refusal_by_lem P alone at ReducedSide = alone 2 (omega arith)
refusal_by_lem P alone at Length = alone 3 (omega arith)
refusal_by_lem P alone at Setting = alone 4 (omega arith)
refusal_by_lem P alone at (Height c) = at 5 c (omega arith)
refusal_by_lem P alone at (Receiver c) = at 6 c (omega arith)
refusal_by_lem P alone at (List p) = at 7 p (omega arith)
refusal_by_lem P alone at Stream = alone 8 (omega arith)
refusal_by_lem P alone at Cells = alone 9 (omega arith)
refusal_by_lem P alone at Stopped = alone 21 (omega arith)
refusal_by_lem P alone at RunOff = alone 22 (omega arith)
refusal_by_lem P alone at Row = alone 31 (omega arith)
refusal_by_lem P alone at Spacings = alone 32 (omega arith)
refusal_by_lem P alone at NoCell = alone 33 (omega arith)
refusal_by_lem P alone at NoBase = alone 34 (omega arith)
refusal_by_lem P alone at (Metres c) = at 35 c (omega arith)
refusal_by_lem P alone at Tiles = alone 36 (omega arith)

refusal_given : (r : Refusal) → given (refusal_of {A = Unit {0}} r) ≡ false
refusal_given = refusal_by_lem (λ o n p. given (o (Unit {0})) ≡ false) (λ n l. refl) (λ n p l. refl)

pub refused_given : {a : Answer} {r : Refusal} → a ≡ Err r → given (answer_of a) ≡ false
refused_given {a} {r} e = ap (λ (b : Answer). given (answer_of b)) e ∙ refusal_given r

-- what a call gives is no refusal
never_given : {A : Type 0} {o : Outcome A} {x : A} → given o ≡ false → o ≡ gives x → ⊥
never_given n e = clash (ap given e) n

-- what a test does not refuse passes it
pub not_refused : {A : Type 0} (b : Bool) (o rest : Outcome A) (x : A) → given o ≡ false → cond b o rest ≡ gives x → (b ≡ false) × (rest ≡ gives x)
not_refused b o rest x n e = not_first b o rest (never_given n) e

-- and what is refused unless a test holds meets it
pub not_refused_unless : {A : Type 0} (b : Bool) (y : A) (o : Outcome A) (x : A) → given o ≡ false → cond b (gives y) o ≡ gives x → (b ≡ true) × (y ≡ x)
not_refused_unless b y o x n e = let p = not_second b (gives y) o (never_given n) e in (p.0, given_same p.1)
  where
    given_same : gives y ≡ gives x → y ≡ x
    given_same e = cc

-- what an outcome says, in other words
abbrev pub by_outcome : {A : Type 0} → (ℕ → A) → (ℕ → ℕ → A) → A → Outcome (Unit {0}) → A
by_outcome number at then (gives x) = then
by_outcome number at then (refused k) = number k
by_outcome number at then (refused_at k c) = at k c

-- a refusal is itself, and keeps what was there
by_itself : (o then : Outcome (Unit {0})) → given o ≡ false → by_outcome refused refused_at then o ≡ o
by_itself (gives x) then e = absurd (false≢true (sym e))
by_itself (refused k) then e = refl
by_itself (refused_at k c) then e = refl

by_staying : {A : Type 0} (x then : A) (o : Outcome (Unit {0})) → given o ≡ false → by_outcome (λ _. x) (λ _ _. x) then o ≡ x
by_staying x then (gives y) e = absurd (false≢true (sym e))
by_staying x then (refused k) e = refl
by_staying x then (refused_at k c) e = refl

-- tests in number order that choose a refusal or `then`, whatever the results are
module _ (tests : (A : Type 0) → (ℕ → A) → (ℕ → ℕ → A) → A → A)
    (alike : (A : Type 0) (number : ℕ → A) (at : ℕ → ℕ → A) (then : A) → by_outcome number at then (tests (Outcome (Unit {0})) refused refused_at (gives tt)) ≡ tests A number at then) where
  module _ (o : Outcome (Unit {0})) (e : o ≡ tests (Outcome (Unit {0})) refused refused_at (gives tt)) where
    -- a refusal is the whole answer
    pub refused_whole : given o ≡ false → (then : Outcome (Unit {0})) → o ≡ tests (Outcome (Unit {0})) refused refused_at then
    refused_whole n then = sym (by_itself o then n) ∙ ap (by_outcome refused refused_at then) e ∙ alike (Outcome (Unit {0})) refused refused_at then

    -- and what it keeps is kept
    pub refused_kept : given o ≡ false → {A : Type 0} (x then : A) → x ≡ tests A (λ _. x) (λ _ _. x) then
    refused_kept n {A} x then = sym (by_staying x then o n) ∙ ap (by_outcome (λ _. x) (λ _ _. x) then) e ∙ alike A (λ _. x) (λ _ _. x) then

  -- an accepted input gets what comes behind the tests
  pub accepted_then : gives tt ≡ tests (Outcome (Unit {0})) refused refused_at (gives tt) → {A : Type 0} (number : ℕ → A) (at : ℕ → ℕ → A) (then : A) → then ≡ tests A number at then
  accepted_then e {A} number at then = ap (by_outcome number at then) e ∙ alike A number at then
