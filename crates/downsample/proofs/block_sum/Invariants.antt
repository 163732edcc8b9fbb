use Prim.Native.Nat.{◌≤◌}
use mathlib.Core.Path.{◌≡◌}
use Rattle.resample.specs.Blocks.{block_sum}
use Rattle.downsample.proofs.block_sum.Given as goal

abbrev pub invariant-loop-i : goal.invariant-loop-i
invariant-loop-i l = (l.sum ≡ block_sum l.src l.w l.x l.n l.y l.i) × (l.i ≤ l.rows)
