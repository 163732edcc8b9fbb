use mathlib.Core.Path.{refl}
use native.Mathlib.Omega.{arith}
use Rattle.flood_reach.proofs.ReachLaws.{sizes_whole}
use Rattle.flood_reach.proofs.ByLaws.{found_reached, all_near}
use Rattle.flood_reach.proofs.reach_all.Goals as goal

pub reach_found-requires : goal.reach_found-requires
reach_found-requires c = record {
  sizes = sizes_whole c.requires.sizes;
  queued = c.requires.queued;
  c_in_bounds = omega (arith, c.requires.c_bound, c.requires.sizes.heights);
  c_value = c.requires.c_value;
  level = c.requires.level;
}

pub returns-then-is_inner : goal.returns-then-is_inner
returns-then-is_inner c = found_reached _ _ _ _ _ _ _ _ c.reach_found.ensures _ _ _ _ c.find_unpushed-some.ensures refl

pub reach_found-requires-2 : goal.reach_found-requires-2
reach_found-requires-2 c =
    let a = c.args in
    record {
      sizes = sizes_whole c.requires.sizes;
      queued = c.requires.queued;
      c_in_bounds = omega (arith, c.requires.c_bound, c.requires.sizes.heights);
      c_value = c.requires.c_value;
      level = c.requires.level;
    }

pub returns : goal.returns
returns c = all_near _ _ _ _ _ _ _ _ c.reach_found-2.ensures _ _ c.find_all.ensures
