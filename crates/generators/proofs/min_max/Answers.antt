use Rattle.std.proofs.Common.{rules}
use Rattle.std.proofs.lemmas.Fn.{fold_over, fronts}
use Rattle.std.proofs.lemmas.Iterator.{YieldsList-from_slice}
use native.Mathlib.Omega.{arith}
use mathlib.Core.Path.{◌≡◌, refl, sym, ap, ◌∙◌}
use mathlib.Core.List.{List, [], ◌∷◌, ◌++◌}
use lib.ListN.{length}
use lib.Ieee.{Float, binary32, of_bits}
use Rattle.generators.specs.declared.MinMax.{MinMax}
use Rattle.generators.specs.Extents.{widened, widened_by, min_max_of}
use Rattle.generators.proofs.min_max.Goals as goal

min_max_of_none : (v : List Float) → length v ≡ 0 → record { min = of_bits binary32 0; max = of_bits binary32 0 } ≡ min_max_of v
unfolding min_max_of
min_max_of_none [] h = refl
min_max_of_none (x ∷ xs) h = absurd (omega arith)

widened_by_more : (m : MinMax) (xs : List Float) (y : Float) → widened_by m (xs ++ (y ∷ [])) ≡ widened (widened_by m xs) y
unfolding widened_by
widened_by_more m [] y = refl
widened_by_more m (x ∷ xs) y = widened_by_more (widened m x) xs y

module _ (start : MinMax) where
  widened_next : (xs : List Float) (m : MinMax) (y : Float) (r : MinMax) → m ≡ widened_by start xs → r ≡ widened m y → r ≡ widened_by start (xs ++ (y ∷ []))
  widened_next xs m y r e f = f ∙ ap (λ (q : MinMax). widened q y) e ∙ sym (widened_by_more start xs y)

  widened_none : start ≡ widened_by start []
  unfolding widened_by
  widened_none = refl

min_max_of_cons : (v : List Float) (x : Float) (xs : List Float) (r : MinMax) → v ≡ x ∷ xs → r ≡ widened_by (record { min = x; max = x }) xs → r ≡ min_max_of v
unfolding min_max_of
min_max_of_cons v x xs r e f = rw e f

pub returns-in_default : goal.returns-in_default
returns-in_default c = min_max_of_none _ c.in_default.ensures.cases

pub returns : goal.returns
returns c =
    let start : MinMax = record { min = c.in-Some.first.now; max = c.in-Some.first.now } in
    min_max_of_cons _ _ _ _ c.in-Some.ensures.cases.0
    (fold_over (fronts {A = Float}) (λ y. y.now) _ (λ xs r. r ≡ widened_by start xs) _
    (λ ys a x b f' j k. (widened_next start ys a x.now b j (search rules), search rules))
    _ c.in-Some.rest.now _ _ (YieldsList-from_slice c.in-Some.rest.now cc).runs (widened_none start) c.fold.ensures.ran)
