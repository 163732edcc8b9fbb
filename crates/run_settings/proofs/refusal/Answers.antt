use Rattle.grid.proofs.HeightsLaws.{bad_height, bad_height_is, no_bad_height}
use Rattle.grid.proofs.SidesLaws.{sides_fit}
use borrow.Author.Tests.{eq-eqb, le-ltb}
use mathlib.Core.Path.{sym, ◌∙◌}
use Rattle.run_settings.proofs.refusal.Goals as goal

pub overflow_mul-n : goal.overflow_mul-n
overflow_mul-n c = sides_fit _ _ (sym c.bad_sides.ensures ∙ c.if-bad_sides.false)

pub returns-in-Some : goal.returns-in-Some
returns-in-Some c = rw (sym c.bad_sides.ensures ∙ c.if-bad_sides.false, eq-eqb _ _ c.if-hmap-n.false, le-ltb _ _ c.if-scratch-n.false, c.if-bad.false, bad_height _ c.first_not_finite.ensures c.in-Some.is, (bad_height_is _ c.first_not_finite.ensures c.in-Some.is))

pub returns : goal.returns
returns c = rw (sym c.bad_sides.ensures ∙ c.if-bad_sides.false, eq-eqb _ _ c.if-hmap-n.false, le-ltb _ _ c.if-scratch-n.false, c.if-bad.false, no_bad_height _ c.first_not_finite.ensures c.in_default.is)
