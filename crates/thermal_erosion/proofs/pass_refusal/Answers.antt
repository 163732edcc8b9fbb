use mathlib.Core.Path.{sym, ap, ◌∙◌}
use borrow.Author.Tests.{eq-eqb}
use Rattle.answers.specs.Outcome.{refused_at}
use Rattle.grid.proofs.HeightsLaws.{bad_height, bad_height_is, no_bad_height}
use Rattle.thermal_erosion.proofs.pass_refusal.Goals as goal

pub returns-in-Some : goal.returns-in-Some
returns-in-Some c =
    rw (sym c.bad_sides.ensures ∙ c.if-bad_sides.false, eq-eqb _ _ c.if-hmap-n.false, eq-eqb _ _ c.if-copy-n.false, c.if-bad.false, bad_height _ c.first_not_finite.ensures c.in-Some.is)
    (ap (refused_at 5) (bad_height_is _ c.first_not_finite.ensures c.in-Some.is))

pub returns : goal.returns
returns c =
    rw (sym c.bad_sides.ensures ∙ c.if-bad_sides.false, eq-eqb _ _ c.if-hmap-n.false, eq-eqb _ _ c.if-copy-n.false, c.if-bad.false, no_bad_height _ c.first_not_finite.ensures c.in_default.is)
