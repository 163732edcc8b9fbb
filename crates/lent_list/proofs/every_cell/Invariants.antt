use Rattle.std.proofs.Common.{true, ◌&&◌, length, get_or, ltb}
use Rattle.loops.proofs.LoopLaws.{Turning}
use Rattle.lent_list.proofs.every_cell.Given as goal

abbrev pub invariant-loop-c : goal.invariant-loop-c
invariant-loop-c l = Turning (λ k b. b && ltb (get_or l.list k 0) l.n) (length l.list) l.c-index true l.good
