use Prim.Native.Nat.{◌-◌}
use Rattle.loops.specs.Loops.{Searched}
use Rattle.lent_list.proofs.SegmentLaws.{Segments}
use Rattle.lent_list.proofs.first_by_bits.Given as goal

abbrev pub invariant-loop-lo : goal.invariant-loop-lo
invariant-loop-lo l = Searched l.n (Segments l.n l.recv l.list l.lo) l.bad

abbrev pub decreases-loop-lo : goal.decreases-loop-lo
decreases-loop-lo l = l.n - l.lo
