use Prim.Native.Nat.{◌-◌}
use Rattle.lent_list_marks.specs.Seen.{span, is_marked}
use Rattle.lent_list.specs.Walks.{Walk}
use Rattle.lent_list.proofs.first_in_segment.Given as goal

abbrev pub invariant-loop-p : goal.invariant-loop-p
invariant-loop-p l = Walk span l.n l.recv l.list l.lo l.limit l.p (is_marked l.seen)

abbrev pub decreases-loop-p : goal.decreases-loop-p
decreases-loop-p l = l.limit - l.p
