use native.Mathlib.Omega.{arith}
use mathlib.Core.Path.{refl, sym, ap, ◌∙◌}
use mathlib.Core.Bool.{true, false}
use Rattle.answers.specs.Outcome.{refused_at}
use Rattle.grid.proofs.SidesLaws.{sides_fit}
use Rattle.grid.proofs.HeightsLaws.{bad_height, bad_height_is, no_bad_height}
use Rattle.flow.proofs.RouteLaws.{answer_is, enough}
use Rattle.flow.proofs.refusal.Goals as goal

pub returns-then-bad_sides : goal.returns-then-bad_sides
returns-then-bad_sides c = let a = c.args in
    answer_is a.size.w a.size.h a.h.now a.water_level a.l true _ _ _ (sym c.bad_sides.ensures ∙ c.if-bad_sides.true) refl refl refl

pub overflow_mul-n : goal.overflow_mul-n
overflow_mul-n c = sides_fit _ _ (sym c.bad_sides.ensures ∙ c.if-bad_sides.false)

pub returns-then-bad_lengths : goal.returns-then-bad_lengths
returns-then-bad_lengths c = let a = c.args in
    answer_is a.size.w a.size.h a.h.now a.water_level a.l false true _ _ (sym c.bad_sides.ensures ∙ c.if-bad_sides.false) (sym c.bad_lengths.ensures ∙ c.if-bad_lengths.true) refl refl

pub returns-then-not-is_finite : goal.returns-then-not-is_finite
returns-then-not-is_finite c = let a = c.args in
    answer_is a.size.w a.size.h a.h.now a.water_level a.l false false false _ (sym c.bad_sides.ensures ∙ c.if-bad_sides.false) (sym c.bad_lengths.ensures ∙ c.if-bad_lengths.false) (sym c.is_finite.ensures ∙ c.if-not-is_finite.true) refl

pub first_not_finite-requires : goal.first_not_finite-requires
first_not_finite-requires c = sym c.requires ∙ (enough _ _ _ (sym c.bad_lengths.ensures ∙ c.if-bad_lengths.false)).heights

pub returns-in-Some : goal.returns-in-Some
returns-in-Some c = let a = c.args in
    let lengths = sym c.bad_lengths.ensures ∙ c.if-bad_lengths.false in
    let many = sym c.requires ∙ (enough _ _ _ lengths).heights in
    ap (refused_at 5) (bad_height_is _ c.first_not_finite.ensures c.in-Some.is)
    ∙ answer_is a.size.w a.size.h a.h.now a.water_level a.l false false true false (sym c.bad_sides.ensures ∙ c.if-bad_sides.false) lengths (sym c.is_finite.ensures ∙ c.if-not-is_finite.false) (bad_height _ c.first_not_finite.ensures c.in-Some.is)

pub returns : goal.returns
returns c = let a = c.args in
    let lengths = sym c.bad_lengths.ensures ∙ c.if-bad_lengths.false in
    let many = sym c.requires ∙ (enough _ _ _ lengths).heights in
    answer_is a.size.w a.size.h a.h.now a.water_level a.l false false true true (sym c.bad_sides.ensures ∙ c.if-bad_sides.false) lengths (sym c.is_finite.ensures ∙ c.if-not-is_finite.false) (no_bad_height _ c.first_not_finite.ensures c.in_default.is)
