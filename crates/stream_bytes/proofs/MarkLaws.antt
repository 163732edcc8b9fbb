-- Marks, compared byte by byte.
use Prim.Native.Nat.{ℕ, ◌<◌}
use mathlib.Core.Path.{◌≡◌, refl, sym, ap, ap₂, ◌∙◌}
use mathlib.Core.Bool.{Bool, false, ◌&&◌}
use mathlib.Core.List.{List, [], ◌∷◌}
use native.Mathlib.Omega.{arith}
use lib.Dec.{eqb}
use lib.ListN.{length, take, drop}
use lib.Pointwise.{pointwise}
use Rattle.std.proofs.lemmas.Bool.Decides.{nat_tests}
use Rattle.std.proofs.Math.ListN.{drop_of_length-le}
use Rattle.stream_bytes.specs.Bytes.{same, marked}

either_way : (x y : ℕ) → eqb y x ≡ eqb x y
either_way x y = grind (arith, nat_tests)

-- the comparison of the language is that of the definition
same_pointwise : (xs ys : List ℕ) → pointwise eqb ys xs ≡ same xs ys
unfolding same
same_pointwise [] [] = refl
same_pointwise [] (y ∷ ys) = refl
same_pointwise (x ∷ xs) [] = refl
same_pointwise (x ∷ xs) (y ∷ ys) = ap₂ (λ (a b : Bool). a && b) (either_way x y) (same_pointwise xs ys)

-- a stream that has a rest there
pub marked_by : (s : List ℕ) (at : ℕ) (m : List ℕ) → length m ≡ 2 → {rest : List ℕ} → rest ≡ drop at s → {r : Bool} → r ≡ pointwise eqb m (take (length m) rest) → r ≡ marked s at m
marked_by s at m e f g = g ∙ ap₂ (λ (n : ℕ) (l : List ℕ). pointwise eqb m (take n l)) e f ∙ same_pointwise (take 2 (drop at s)) m

-- one that has ended before
pub marked_past : (s : List ℕ) (at : ℕ) (m : List ℕ) → length m ≡ 2 → length s < at → false ≡ marked s at m
unfolding same
marked_past s at [] e h = let z : ⊥ = omega arith in absurd z
marked_past s at (x ∷ m) e h = sym (ap (λ (l : List ℕ). same (take 2 l) (x ∷ m)) (drop_of_length-le s (omega arith)))
