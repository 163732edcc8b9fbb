use Rattle.loops.proofs.FillLaws.{Filling}
use Rattle.stream_rows.specs.Rows.{height_at}
use Rattle.stream_rows.proofs.Rows.read_row.Given as goal

abbrev pub invariant-loop-x : goal.invariant-loop-x
invariant-loop-x l = Filling (λ k. height_at l.self.bytes.now l.self.at l.self.size.w k l.y) l.x l.initial.row l.row
