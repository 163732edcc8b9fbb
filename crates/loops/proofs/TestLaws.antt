-- Laws of tests: what a conjunction or a disjunction says of its parts, and which of two values a test chooses.
use Prim.Native.Nat.{ℕ, ◌≤◌, ◌<◌}
use native.Mathlib.Decide.{ℕ_discrete, dec_lt}
use native.Mathlib.Omega.{arith}
use mathlib.Core.Path.{◌≡◌, refl, sym, ap, ◌∙◌}
use mathlib.Core.Logic.{◌⊎◌, inl, inr}
use mathlib.Core.Bool.{Bool, true, false, ◌&&◌, ◌||◌, cond, true≢false}

pub clash : {b : Bool} → b ≡ true → b ≡ false → ⊥
clash t f = true≢false (sym t ∙ f)

pub both : (a b : Bool) → (a && b) ≡ true → (a ≡ true) × (b ≡ true)
both true b e = (refl, e)
both false b e = absurd (true≢false (sym e))

pub neither : (a b : Bool) → (a || b) ≡ false → (a ≡ false) × (b ≡ false)
neither true b e = absurd (true≢false e)
neither false b e = (refl, e)

-- the last of four tests none of which was met
pub fourth : (a b c d : Bool) → (a || (b || (c || d))) ≡ false → d ≡ false
fourth a b c d e = (neither c d (neither b (c || d) (neither a (b || (c || d)) e).1).1).1

-- two tests, each met where the other is, are one
pub alike : (a b : Bool) → (a ≡ true → b ≡ true) → (b ≡ true → a ≡ true) → a ≡ b
alike true b f g = sym (f refl)
alike false true f g = g refl
alike false false f g = refl

pub chosen : {A : Type 0} (b : Bool) (x y : A) → b ≡ true → x ≡ cond b x y
chosen b x y e = sym (ap (λ (t : Bool). cond t x y) e)

pub passed : {A : Type 0} (b : Bool) (x y : A) → b ≡ false → y ≡ cond b x y
passed b x y e = sym (ap (λ (t : Bool). cond t x y) e)

-- what holds of two values, each where the test chooses it, holds of the one chosen
pub by_test : {A : Type 0} (P : A → Type 0) (b : Bool) (x y : A) → (b ≡ true → P x) → (b ≡ false → P y) → P (cond b x y)
by_test P true x y f g = f refl
by_test P false x y f g = g refl

pub either : {A : Type 0} (P : A → Type 0) (b : Bool) (x y : A) → P x → P y → P (cond b x y)
either P b x y p q = by_test P b x y (λ _. p) (λ _. q)

-- a function of the value chosen is a choice between its values
pub through : {A B : Type 0} (f : A → B) (b : Bool) (x y : A) → f (cond b x y) ≡ cond b (f x) (f y)
through f true x y = refl
through f false x y = refl

pub through₂ : {A B C : Type 0} (f : A → B → C) (b : Bool) (x y : A) (u v : B) → f (cond b x y) (cond b u v) ≡ cond b (f x u) (f y v)
through₂ f true x y u v = refl
through₂ f false x y u v = refl

-- two choices by one test are one where they are one behind it
pub behind : {A : Type 0} (b : Bool) (x : A) {y z : A} → (b ≡ false → y ≡ z) → cond b x y ≡ cond b x z
behind true x f = refl
behind false x f = f refl

-- a choice that is not the one value is the other, and the test says so
pub not_first : {A : Type 0} (b : Bool) (x y : A) {z : A} → (x ≡ z → ⊥) → cond b x y ≡ z → (b ≡ false) × (y ≡ z)
not_first true x y n e = absurd (n e)
not_first false x y n e = (refl, e)

pub not_second : {A : Type 0} (b : Bool) (x y : A) {z : A} → (y ≡ z → ⊥) → cond b x y ≡ z → (b ≡ true) × (x ≡ z)
not_second true x y n e = (refl, e)
not_second false x y n e = absurd (n e)

-- two numbers are the same or not, and one is lower than the other or not
pub same_or_not : (a b : ℕ) → (a ≡ b) ⊎ (a ≡ b → ⊥)
same_or_not a b = elim (ℕ_discrete a b) [ yes e ↦ inl e | no d ↦ inr d ]

pub lower_or_not : (a b : ℕ) → (a < b) ⊎ (b ≤ a)
lower_or_not a b = elim (dec_lt a b) [ yes l ↦ inl l | no n ↦ inr (omega arith) ]
