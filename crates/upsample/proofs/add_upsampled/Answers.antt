use Rattle.std.proofs.lemmas.Result.{err_from_is_err_and}
use Rattle.std.specs.declared.result.Result.TheVariants.{Err}
use mathlib.Core.Path.{refl, sym, ap, ◌∙◌}
use Rattle.answers.specs.Outcome.{answer_of}
use Rattle.upsample.proofs.AddLaws.{full_grid, small_grid, add_refused, add_small, add_run_off, add_done}
use Rattle.grid.proofs.HeightsLaws.{bad_height, bad_height_is, no_bad_height}
use Rattle.resample.proofs.RefusalLaws.{AcceptedMaps, map_good}
use lib.ListN.{length}
use Rattle.upsample.proofs.add_upsampled.Goals as goal
use Rattle.upsample.proofs.add_upsampled.Goals.{In_ok-map_refusal}

pub returns-in_err-map_refusal : goal.returns-in_err-map_refusal
returns-in_err-map_refusal c =
    let p = err_from_is_err_and c.from_residual.result c.from_residual.ensures.1 in
    rw (p.1, p.2) (add_refused (Err c.in_err-map_refusal.field-0.0) _ (ap answer_of (sym c.in_err-map_refusal.was) ∙ c.map_refusal.ensures) refl)

-- past the refusals of the map
accepted : (c : In_ok-map_refusal) → let a = c.args in AcceptedMaps a.map.now a.size.w a.size.h (length a.delta.now) a.dsize.w a.dsize.h
accepted c = map_good _ _ _ _ _ _ _ c.map_refusal.ensures c.in_ok-map_refusal.was

pub first_not_finite-requires : goal.first_not_finite-requires
first_not_finite-requires c = (accepted c).small

pub returns-in-Some : goal.returns-in-Some
returns-in-Some c = add_small (accepted (goal.at.returns-in-Some c).In_ok-map_refusal) _ (bad_height_is _ c.first_not_finite.ensures c.in-Some.is) (bad_height _ c.first_not_finite.ensures c.in-Some.is)

pub add_finite-requires : goal.add_finite-requires
add_finite-requires c =
    let s = accepted (goal.at.add_finite-requires c).In_ok-map_refusal in
    record { grid = full_grid s.in_grid s.full; grid_2 = small_grid s.in_grid s.small }

pub returns-then-not-add_finite : goal.returns-then-not-add_finite
returns-then-not-add_finite c = add_run_off (accepted (goal.at.returns-then-not-add_finite c).In_ok-map_refusal) (no_bad_height _ c.first_not_finite.ensures c.in_default.is) c.add_finite.ensures (c.if-not-add_finite.true)

pub returns : goal.returns
returns c = add_done (accepted (goal.at.returns c).In_ok-map_refusal) (no_bad_height _ c.first_not_finite.ensures c.in_default.is) c.add_finite.ensures (c.if-not-add_finite.false)
