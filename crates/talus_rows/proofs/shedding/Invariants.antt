use Prim.Native.Nat.{◌≤◌}
use mathlib.Core.Path.{◌≡◌}
use Rattle.talus_rows.specs.Blocks.{shedders}
use Rattle.talus_rows.proofs.shedding.Given as goal

abbrev pub invariant-loop-i : goal.invariant-loop-i
invariant-loop-i l = (l.k ≡ shedders l.totals l.i) × (l.i ≤ l.n)
