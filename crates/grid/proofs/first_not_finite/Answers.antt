use mathlib.Core.Path.{sym, ◌∙◌}
use native.Mathlib.Omega.{arith}
use Rattle.loops.proofs.PlaceLaws.{place_past}
use Rattle.grid.proofs.HeightsLaws.{all_below, first_none}
use Rattle.grid.proofs.first_not_finite.Goals as goal

pub returns-then-all_finite : goal.returns-then-all_finite
returns-then-all_finite c = place_past (omega (arith, first_none _ (all_below _ (sym c.all_finite.ensures ∙ c.if-all_finite.true))))
