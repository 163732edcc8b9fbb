use mathlib.Core.Path.{◌∙◌}
use Rattle.areas.proofs.WordLaws.{whole_areas}
use Rattle.fluvial_erosion.proofs.CellLaws.{few_cells}
use Rattle.fluvial_carve.proofs.RoutedLaws.{routing_drains, routed_areas, carves}
use Rattle.fluvial_carve.proofs.carve_grid.Goals as goal

pub route_grid-requires : goal.route_grid-requires
route_grid-requires c = record { accepted_grid = c.requires.accepted_grid; enough = c.requires.enough; h_value = c.requires.hmap_value }

pub incise_along-requires : goal.incise_along-requires
incise_along-requires c =
    let k = c.route_grid.auto in
    let drains = routing_drains _ _ _ c.args.land c.requires.accepted_grid c.type_inv.hmap c.requires.hmap_value c.route_grid.ensures (k.recv ∙ c.requires.enough.receivers) in
    record {
      drains = drains;
      lengths = record { heights = c.requires.accepted_grid.cells; result = k.spill ∙ c.requires.enough.spill; areas = k.area ∙ c.requires.enough.areas };
      whole_areas = whole_areas (few_cells drains) drains.work (routed_areas c.route_grid.ensures);
    }

pub returns : goal.returns
returns c = carves _ _ c.args.land _ _ c.route_grid.ensures c.incise_along.ensures
