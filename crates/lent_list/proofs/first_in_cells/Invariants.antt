use Rattle.std.proofs.Common.{◌≡◌, ℕ, ◌<◌, true}
use Rattle.lent_list.specs.Walks.{good_by_marks, marked_by}
use Rattle.lent_list.proofs.first_in_cells.Given as goal

abbrev pub invariant-loop-i : goal.invariant-loop-i
invariant-loop-i g l = (l.seen ≡ marked_by l.lo l.cells l.initial.seen l.i) × ((j : ℕ) → j < l.i → good_by_marks l.lo l.recv l.cells l.initial.seen j ≡ true)
