use Prim.Native.Nat.{◌-◌}
use lib.ListN.{length}
use Rattle.incision_paths.specs.Walk.{Descent}
use Rattle.incision_paths.proofs.walk_down.Given as goal

abbrev pub invariant-loop-i : goal.invariant-loop-i
invariant-loop-i l = Descent l.recv l.words l.initial.out l.i l.out l.j l.count

abbrev pub decreases-loop-i : goal.decreases-loop-i
decreases-loop-i l = length l.recv - l.count
