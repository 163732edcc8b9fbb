use Prim.Native.Nat.{◌*◌}
use mathlib.Core.Path.{◌≡◌}
use mathlib.Core.Bool.{false}
use Rattle.drainage.specs.Ground.{grid_ground, no_base}
use Rattle.drainage.specs.declared.Land.{Land}
use Rattle.flood_start.specs.Slices.{Sizes, Started}
use Rattle.flood.proofs.RunLaws.{Running}
use Rattle.flood.proofs.flood.Given as goal

-- Once i cells have left the slices hold the flood after i steps, on any land that the first state is of.
abbrev pub invariant-loop-i : goal.invariant-loop-i
invariant-loop-i l = Sizes (l.g.w * l.g.h) l.h l.status l.spill l.recv l.queue × ((land : Land) → Started l.g.w l.g.h land l.h l.initial.status l.initial.spill l.initial.recv → no_base (grid_ground l.g.w l.g.h land l.h) ≡ false → Running l.g.w l.g.h land l.h l.i l.scan l.status l.spill l.recv l.order l.queue)
