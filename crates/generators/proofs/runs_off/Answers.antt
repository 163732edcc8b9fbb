use Rattle.std.proofs.Common.{rules, tests}
use Rattle.std.proofs.lemmas.Iterator.{YieldsList-from_slice}
use Rattle.std.proofs.lemmas.Iterator.Search.{all_from_yields_List}
use Rattle.std.specs.List.{list_all}
use mathlib.Core.Path.{◌≡◌, refl, sym, ap, ◌∙◌}
use mathlib.Core.Bool.{Bool, not, ◌&&◌}
use mathlib.Core.List.{List, [], ◌∷◌, map}
use lib.Ieee.{Float}
use lib.Ieee.Scale.{finite}
use Rattle.grid.specs.Heights.{all_finite, first_not_finite}
use Rattle.grid.proofs.HeightsLaws.{all_cons}
use Rattle.generators.specs.Extents.{scaled_by}
use Rattle.generators.proofs.runs_off.Goals as goal

all_each : (g : Float → Float) (v : List Float) → list_all (λ x. finite (g x)) v ≡ all_finite (map g v)
unfolding all_finite first_not_finite
all_each g [] = refl
all_each g (x ∷ xs) = ap (λ (b : Bool). finite (g x) && b) (all_each g xs) ∙ sym (all_cons (g x) (map g xs))

pub returns : goal.returns
returns c = let a = c.args in
    ap not (all_from_yields_List (λ x. finite (scaled_by a.min a.lo a.slope x)) _ _ _ c.all.ensures.ran (YieldsList-from_slice a.v.now cc) (λ x b q k. search (rules, tests))
    ∙ all_each (scaled_by a.min a.lo a.slope) a.v.now)
