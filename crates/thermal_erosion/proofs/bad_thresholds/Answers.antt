use Rattle.std.proofs.Common.{rules, tests}
use Rattle.std.proofs.lemmas.Iterator.{YieldsList-from_slice}
use Rattle.std.proofs.lemmas.Iterator.Search.{any_from_yields_List}
use Rattle.std.specs.List.{list_any}
use mathlib.Core.Path.{◌≡◌, refl, ap, ◌∙◌}
use mathlib.Core.Bool.{Bool, ◌||◌}
use mathlib.Core.List.{List, [], ◌∷◌}
use lib.Ieee.{Float}
use Rattle.thermal_erosion.specs.OverPass.{bad_of_eight, bad_thresholds}
use Rattle.thermal_erosion.proofs.bad_thresholds.Goals as goal

some_bad : (ts : List Float) → list_any bad_of_eight ts ≡ bad_thresholds ts
unfolding bad_thresholds
some_bad [] = refl
some_bad (t ∷ ts) = ap (λ (b : Bool). bad_of_eight t || b) (some_bad ts)

pub returns : goal.returns
returns c =
    any_from_yields_List bad_of_eight _ _ _ c.any.ensures.ran (YieldsList-from_slice c.args.eight cc) (λ x b q k. search (rules, tests))
    ∙ some_bad c.args.eight
