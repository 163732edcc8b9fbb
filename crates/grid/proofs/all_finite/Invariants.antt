use Prim.Native.Nat.{◌-◌, ◌≤◌}
use mathlib.Core.Path.{◌≡◌}
use lib.ListN.{length, get_or}
use lib.Ieee.{nan}
use Rattle.loops.specs.Loops.{tabulate}
use Rattle.grid.specs.Heights.{all_finite}
use Rattle.grid.proofs.all_finite.Given as goal

abbrev pub invariant-loop-height : goal.invariant-loop-height
invariant-loop-height l = (l.height-index ≤ length l.hs) × (l.good ≡ all_finite (tabulate l.height-index (λ k. get_or l.hs k nan)))
