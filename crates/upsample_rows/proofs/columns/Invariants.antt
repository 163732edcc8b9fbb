use Rattle.loops.proofs.FillLaws.{Filling}
use Rattle.upsample_rows.specs.Rows.{reduced_column, way_of}
use Rattle.upsample_rows.proofs.columns.Given as goal

abbrev pub invariant-loop-x : goal.invariant-loop-x
invariant-loop-x l = record {
  columns : Filling (reduced_column l.w l.dw) l.x l.initial.cs l.cs;
  ways : Filling (way_of l.w l.dw) l.x l.initial.ds l.ds;
}
