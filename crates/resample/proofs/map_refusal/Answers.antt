use mathlib.Core.Path.{sym, ◌∙◌}
use borrow.Author.Tests.{eqb-true, not-false}
use Rattle.grid.proofs.HeightsLaws.{bad_height, bad_height_is, no_bad_height}
use Rattle.resample.proofs.RefusalLaws.{sides_good, reduced_small}
use Rattle.resample.proofs.map_refusal.Goals as goal
use Rattle.resample.proofs.map_refusal.Goals.{then-bad_length-via-then-bad_length, then-bad_length-via-else-bad_length+then-bad_length-2}

pub returns-then-bad_sides : goal.returns-then-bad_sides
returns-then-bad_sides c = rw (sym c.bad_sides.ensures ∙ c.if-bad_sides.true)

pub returns-then-bad_reduced : goal.returns-then-bad_reduced
returns-then-bad_reduced c = rw (sym c.bad_sides.ensures ∙ c.if-bad_sides.false, sym c.bad_reduced.ensures ∙ c.if-bad_reduced.true)

pub bad_length-requires : goal.bad_length-requires
bad_length-requires c = let p = sides_good _ _ (sym c.bad_sides.ensures ∙ c.if-bad_sides.false) in record { w_bound = p.0; h_bound = p.1 }

pub bad_length-requires-else-bad_length : goal.bad_length-requires-else-bad_length
bad_length-requires-else-bad_length c = let p = reduced_small _ _ _ _ (sym c.bad_sides.ensures ∙ c.if-bad_sides.false) (sym c.bad_reduced.ensures ∙ c.if-bad_reduced.false) in record { w_bound = p.0; h_bound = p.1 }

pub returns-then-bad_length : goal.returns-then-bad_length
returns-then-bad_length c =
    elim c.then-bad_length.branch [
      | then-bad_length-via-then-bad_length w ↦
          rw (sym c.bad_sides.ensures ∙ c.if-bad_sides.false, sym c.bad_reduced.ensures ∙ c.if-bad_reduced.false, sym c.bad_length.ensures ∙ w.if-bad_length.true)
      | then-bad_length-via-else-bad_length+then-bad_length-2 w ↦
          rw (sym c.bad_sides.ensures ∙ c.if-bad_sides.false, sym c.bad_reduced.ensures ∙ c.if-bad_reduced.false, sym c.bad_length.ensures ∙ w.if-bad_length.false, sym w.bad_length-else-bad_length.ensures ∙ w.if-bad_length-2.true)
    ]

-- the full map is its grid's
pub first_not_finite-requires : goal.first_not_finite-requires
first_not_finite-requires c = eqb-true _ _ (not-false _ (sym c.bad_length.ensures ∙ c.if-bad_length.false))

pub returns-in-Some : goal.returns-in-Some
returns-in-Some c = rw (sym c.bad_sides.ensures ∙ c.if-bad_sides.false, sym c.bad_reduced.ensures ∙ c.if-bad_reduced.false, sym c.bad_length.ensures ∙ c.if-bad_length.false, sym c.bad_length-else-bad_length.ensures ∙ c.if-bad_length-2.false, bad_height _ c.first_not_finite.ensures c.in-Some.is, (bad_height_is _ c.first_not_finite.ensures c.in-Some.is))

pub returns : goal.returns
returns c = rw (sym c.bad_sides.ensures ∙ c.if-bad_sides.false, sym c.bad_reduced.ensures ∙ c.if-bad_reduced.false, sym c.bad_length.ensures ∙ c.if-bad_length.false, sym c.bad_length-else-bad_length.ensures ∙ c.if-bad_length-2.false, no_bad_height _ c.first_not_finite.ensures c.in_default.is)
