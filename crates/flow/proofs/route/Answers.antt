use Rattle.std.proofs.lemmas.Result.{err_from_is_err_and}
use Rattle.drainage.specs.declared.Land.{Land}
use Rattle.drainage.proofs.GroundLaws.{north_based}
use Rattle.flow.specs.Route.{lent_of}
use mathlib.Core.Path.{refl, sym, ap, ◌∙◌}
use Rattle.answers.specs.Outcome.{answer_of, given}
use Rattle.answers.proofs.OutcomeLaws.{refused_given}
use Rattle.flow.proofs.RouteLaws.{answered, accepted_enough, accepted_grid, routed_refused, routed_done}
use Rattle.flow.proofs.route.Goals as goal

pub returns-in_err-refusal : goal.returns-in_err-refusal
returns-in_err-refusal c =
    let p = err_from_is_err_and c.from_residual.result c.from_residual.ensures.1 in
    rw (p.1, p.2) (routed_refused _ _ _ _ _ _ (ap answer_of (sym c.in_err-refusal.was) ∙ c.refusal.ensures) (refused_given refl))

pub route_grid-requires : goal.route_grid-requires
route_grid-requires c =
    let a = c.args in
    let l = lent_of a.h.now a.order.now a.recv.now a.spill.now a.area.now a.queue.now a.status.now in
    let e =
    answered a.size.w a.size.h a.h.now a.water_level l c.refusal.result c.refusal.ensures
    ∙ ap (λ r. given (answer_of r)) c.in_ok-refusal.was in
    let g = accepted_grid _ _ a.h.now a.water_level l e refl in
    let north = ap (λ (d : Land). d.sides.north) c.square_land-land.ensures in
    record {
      accepted_grid = g;
      enough = accepted_enough _ _ a.h.now a.water_level l e;
      h_value = north_based _ _ c.square_land-land.result a.h.now g.sides north;
    }

pub returns : goal.returns
returns c = routed_done _ _ _ _ _ (ap answer_of (sym c.in_ok-refusal.was) ∙ c.refusal.ensures) _ c.square_land-land.ensures c.route_grid.ensures
