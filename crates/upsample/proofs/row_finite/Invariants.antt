use Prim.Native.Nat.{◌≤◌}
use mathlib.Core.Path.{◌≡◌}
use lib.ListN.{length}
use Rattle.loops.specs.Loops.{tabulate}
use Rattle.grid.specs.Heights.{all_finite}
use Rattle.upsample.proofs.RowLaws.{sum_at}
use Rattle.upsample.proofs.row_finite.Given as goal

abbrev pub invariant-loop-x : goal.invariant-loop-x
invariant-loop-x l = (l.good ≡ all_finite (tabulate l.x (sum_at l.row l.north l.south l.dy))) × (l.x ≤ length l.row)
