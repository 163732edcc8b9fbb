use Rattle.loops.proofs.FillLaws.{Filling}
use Rattle.upsample.proofs.RowLaws.{sum_at}
use Rattle.upsample.proofs.add_row.Given as goal

abbrev pub invariant-loop-x : goal.invariant-loop-x
invariant-loop-x l = Filling (sum_at l.initial.row l.north l.south l.dy) l.x l.initial.row l.row
