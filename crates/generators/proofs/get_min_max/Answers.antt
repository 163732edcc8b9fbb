use mathlib.Core.Path.{ap}
use Rattle.answers.specs.Outcome.{gives, refused_at}
use Rattle.grid.proofs.HeightsLaws.{bad_height, bad_height_is, no_bad_height}
use Rattle.generators.proofs.get_min_max.Goals as goal

pub returns-in-Some : goal.returns-in-Some
returns-in-Some c = rw (bad_height _ c.first_not_finite.ensures c.in-Some.is) (ap (refused_at 5) (bad_height_is _ c.first_not_finite.ensures c.in-Some.is))

pub returns : goal.returns
returns c = rw (no_bad_height _ c.first_not_finite.ensures c.in_default.is) (ap gives c.min_max.ensures)
