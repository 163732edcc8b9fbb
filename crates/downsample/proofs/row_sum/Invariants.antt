use Prim.Native.Nat.{◌≤◌}
use mathlib.Core.Path.{◌≡◌}
use Rattle.resample.specs.Blocks.{row_sum}
use Rattle.downsample.proofs.row_sum.Given as goal

abbrev pub invariant-loop-i : goal.invariant-loop-i
invariant-loop-i l = (l.sum ≡ row_sum l.src l.at l.i l.acc) × (l.i ≤ l.n)
