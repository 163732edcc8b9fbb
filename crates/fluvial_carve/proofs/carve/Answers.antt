use Rattle.std.proofs.lemmas.Result.{err_from_is_err_and}
use Rattle.fluvial_carve.proofs.CarveLaws.{carve_refused, network_found, lengths_found, carve_done}
use Rattle.fluvial_carve.proofs.carve.Goals as goal

pub returns-in_err-route : goal.returns-in_err-route
returns-in_err-route c =
    let a = c.args in
    let p = err_from_is_err_and c.from_residual.result c.from_residual.ensures.1 in
    rw (p.1, p.2) (carve_refused _ _ _ a.params _ _ c.route.ensures c.in_err-route.was)

pub incise_into-requires : goal.incise_into-requires
incise_into-requires c =
    let a = c.args in
    let k = c.route.auto in
    record {
      drains = network_found _ _ _ a.params _ _ c.route.ensures c.in_ok-route.was c.type_inv.hmap k.recv;
      lengths = lengths_found _ _ _ a.params _ _ c.route.ensures c.in_ok-route.was k.spill k.area;
    }

pub returns : goal.returns
returns c = carve_done _ _ _ c.args.params _ _ c.route.ensures c.in_ok-route.was c.square_distances-ds.ensures c.incise_into.ensures
