use mathlib.Core.Path.{refl, sym, subst}
use native.Mathlib.Omega.{arith}
use Rattle.flood_queue.specs.Scans.{Level}
use Rattle.flood_reach.proofs.ReachLaws.{sizes_kept}
use Rattle.flood_reach.proofs.ByLaws.{reached_start, reached_next, reached_end}
use Rattle.flood_reach.proofs.reach_found.Goals as goal

pub loop-m-init : goal.loop-m-init
loop-m-init c = (c.requires.sizes, reached_start _ _ _ _ _ _ c.requires.queued c.requires.c_value)

pub reach-waiting-requires : goal.reach-waiting-requires
reach-waiting-requires c =
    let i = c.loop-m.invariant in
    record {
      sizes = i.0;
      queued = i.1.queued;
      c_in_bounds = c.requires.c_in_bounds;
      c_value = i.1.left;
      level = subst (Level _ _) (sym i.1.level) c.requires.level;
    }

pub loop-m-preserved : goal.loop-m-preserved
loop-m-preserved c =
    let i = c.loop-m.invariant in
    let k = c.reach-waiting.auto in (
      sizes_kept i.0 k.status k.spill k.recv k.queue,
      reached_next _ _ _ _ _ _ _ _ i.1 c.args.found.now _ _ _ _ refl (omega arith) c.reach-waiting.ensures,
    )

pub returns : goal.returns
returns c = reached_end _ _ _ _ _ _ _ _ c.loop-m.invariant.1 c.args.found.now _ (omega arith) refl
