use Rattle.bilinear.proofs.CornerLaws.{grid_good}
use Rattle.bilinear.specs.Places.{Grid}
use Rattle.grid.proofs.HeightsLaws.{bad_height, bad_height_is, no_bad_height}
use Rattle.resample.proofs.RefusalLaws.{sides_good}
use lib.ListN.{length}
use mathlib.Core.Path.{sym, ◌∙◌}
use Rattle.bilinear.proofs.bilinear.Goals as goal
use Rattle.bilinear.proofs.bilinear.Goals.{Else-bad_length, then-bad_coordinate-via-then-bad_coordinate, then-bad_coordinate-via-else-bad_coordinate+then-bad_coordinate-2}

pub returns-then-bad_sides : goal.returns-then-bad_sides
returns-then-bad_sides c = rw (sym c.bad_sides.ensures ∙ c.if-bad_sides.true)

pub bad_length-requires : goal.bad_length-requires
bad_length-requires c = let p = sides_good _ _ (sym c.bad_sides.ensures ∙ c.if-bad_sides.false) in record { w_bound = p.0; h_bound = p.1 }

pub returns-then-bad_length : goal.returns-then-bad_length
returns-then-bad_length c = rw (sym c.bad_sides.ensures ∙ c.if-bad_sides.false, sym c.bad_length.ensures ∙ c.if-bad_length.true)

-- past the refusals of the sides and the length
good : (c : Else-bad_length) → let a = c.args in Grid a.size.w a.size.h (length a.v.now)
good c = grid_good _ _ _ (sym c.bad_sides.ensures ∙ c.if-bad_sides.false) (sym c.bad_length.ensures ∙ c.if-bad_length.false)

pub bad_coordinate-requires : goal.bad_coordinate-requires
bad_coordinate-requires c = (good c).w_high

pub bad_coordinate-requires-else-bad_coordinate : goal.bad_coordinate-requires-else-bad_coordinate
bad_coordinate-requires-else-bad_coordinate c = (good (goal.at.bad_coordinate-requires-else-bad_coordinate c).Else-bad_length).h_high

pub returns-then-bad_coordinate : goal.returns-then-bad_coordinate
returns-then-bad_coordinate c =
    elim c.then-bad_coordinate.branch [
      | then-bad_coordinate-via-then-bad_coordinate w ↦
          rw (sym c.bad_sides.ensures ∙ c.if-bad_sides.false, sym c.bad_length.ensures ∙ c.if-bad_length.false, sym c.bad_coordinate.ensures ∙ w.if-bad_coordinate.true)
      | then-bad_coordinate-via-else-bad_coordinate+then-bad_coordinate-2 w ↦
          rw (sym c.bad_sides.ensures ∙ c.if-bad_sides.false, sym c.bad_length.ensures ∙ c.if-bad_length.false, sym c.bad_coordinate.ensures ∙ w.if-bad_coordinate.false, sym w.bad_coordinate-else-bad_coordinate.ensures ∙ w.if-bad_coordinate-2.true)
    ]

pub first_not_finite-requires : goal.first_not_finite-requires
first_not_finite-requires c = (good (goal.at.first_not_finite-requires c).Else-bad_length).size

pub returns-in-Some : goal.returns-in-Some
returns-in-Some c = rw (sym c.bad_sides.ensures ∙ c.if-bad_sides.false, sym c.bad_length.ensures ∙ c.if-bad_length.false, sym c.bad_coordinate.ensures ∙ c.if-bad_coordinate.false, sym c.bad_coordinate-else-bad_coordinate.ensures ∙ c.if-bad_coordinate-2.false, bad_height _ c.first_not_finite.ensures c.in-Some.is, (bad_height_is _ c.first_not_finite.ensures c.in-Some.is))

pub returns-then-not-is_finite : goal.returns-then-not-is_finite
returns-then-not-is_finite c = rw (sym c.bad_sides.ensures ∙ c.if-bad_sides.false, sym c.bad_length.ensures ∙ c.if-bad_length.false, sym c.bad_coordinate.ensures ∙ c.if-bad_coordinate.false, sym c.bad_coordinate-else-bad_coordinate.ensures ∙ c.if-bad_coordinate-2.false, no_bad_height _ c.first_not_finite.ensures c.in_default.is, ← c.sample-s.ensures, sym c.is_finite.ensures ∙ c.if-not-is_finite.true)

pub returns : goal.returns
returns c = rw (sym c.bad_sides.ensures ∙ c.if-bad_sides.false, sym c.bad_length.ensures ∙ c.if-bad_length.false, sym c.bad_coordinate.ensures ∙ c.if-bad_coordinate.false, sym c.bad_coordinate-else-bad_coordinate.ensures ∙ c.if-bad_coordinate-2.false, no_bad_height _ c.first_not_finite.ensures c.in_default.is, ← c.sample-s.ensures, sym c.is_finite.ensures ∙ c.if-not-is_finite.false)
