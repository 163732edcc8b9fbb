use Rattle.loops.proofs.FillLaws.{Filling}
use Rattle.upsample_rows.specs.Rows.{mix_at}
use Rattle.upsample_rows.proofs.ReducedColumns.mix_row.Given as goal

abbrev pub invariant-loop-x : goal.invariant-loop-x
invariant-loop-x l = Filling (mix_at l.delta.v.now l.delta.size.w l.delta.size.h l.self.w l.y l.south) l.x l.initial.row l.row
