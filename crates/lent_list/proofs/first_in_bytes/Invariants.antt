use Rattle.lent_list_marks.specs.Seen.{is_set}
use Rattle.lent_list.specs.Walks.{Walk}
use Rattle.lent_list.proofs.first_in_bytes.Given as goal

abbrev pub invariant-loop-p : goal.invariant-loop-p
invariant-loop-p l = Walk l.n l.n l.recv l.list 0 l.n l.p (is_set l.seen)
