use lib.Seq.{length-take-le}
use Rattle.flow.proofs.NetLaws.{discoverers, downward, sizes_of, received_is, holding}
use native.Mathlib.Omega.{arith}
use mathlib.Core.Path.{sym, ◌∙◌}
use Rattle.flow.proofs.route_grid.Goals as goal

pub slice_bounds-flood-end-2 : goal.slice_bounds-flood-end-2
slice_bounds-flood-end-2 c = sym (length-take-le _ _ (omega (arith, c.requires.enough.status, c.requires.accepted_grid.cells)))

pub flood-requires : goal.flood-requires
flood-requires c =
    let a = c.args in
    record {
      accepted_grid = c.requires.accepted_grid;
      order_len = c.requires.enough.order;
      sizes = sizes_of _ _ _ a.order.now _ _ a.area.now _ _ c.requires.accepted_grid c.requires.enough;
      h_value = c.requires.h_value;
    }

pub steepest_receivers-requires : goal.steepest_receivers-requires
steepest_receivers-requires c =
    let k = c.flood.auto in
    record {
      in_range = c.requires.accepted_grid.sides;
      spill_len = k.spill ∙ c.requires.enough.spill;
      recv_len = k.recv ∙ c.requires.enough.receivers;
      discoverers = discoverers _ _ _ c.args.land c.requires.accepted_grid c.type_inv.h c.requires.h_value _ c.flood.ensures.found;
    }

pub areas_along-requires : goal.areas_along-requires
areas_along-requires c = let p = downward _ _ _ c.args.land c.requires.accepted_grid c.type_inv.h c.requires.h_value _ _ _ c.requires.enough.areas (c.steepest_receivers.auto.recv ∙ c.flood.auto.recv ∙ c.requires.enough.receivers) (received_is _ _ _ c.args.land _ _ _ c.flood.ensures _ c.steepest_receivers.ensures) c.flood.ensures.left in record { near_receivers = p.0; work_list = p.1 }

pub returns : goal.returns
returns c = holding _ _ _ c.args.land _ _ _ c.flood.ensures _ c.steepest_receivers.ensures _ _ c.requires.enough.areas c.areas_along.ensures
