-- A counting loop's state, the list that a loop fills from the front, and the place that a search finds.
use Rattle.std.specs.Prelude.{◌≡◌, ℕ, zero, suc, cond, List, [], ◌∷◌, ◌++◌, ltb, Option, Some, None}

-- the state after n turns of f from s: turn i is done by f i
unfoldable pub turns : {S : Type 0} → ℕ → (ℕ → S → S) → S → S
turns zero f s = s
turns (suc n) f s = f n (turns n f s)

-- f 0, f 1, … f (n - 1)
unfoldable pub tabulate : {A : Type 0} → ℕ → (ℕ → A) → List A
tabulate zero f = []
tabulate (suc n) f = tabulate n f ++ (f n ∷ [])

-- the place c where it is one of n, else none
abbrev pub place_among : ℕ → ℕ → Option ℕ
place_among n c = cond (ltb c n) (Some c) None

-- what a search among n places answers: the place with the fact P where it is one of them, else none
pub record Searched (n : ℕ) (P : ℕ → Type 0) (answer : Option ℕ) : Type 0 where
  pub place : ℕ
  pub fact : P place
  pub is : answer ≡ place_among n place
