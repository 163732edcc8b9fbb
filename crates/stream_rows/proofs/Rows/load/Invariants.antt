use Prim.Native.Nat.{◌*◌}
use Rattle.loops.proofs.FillLaws.{Filling}
use Rattle.stream_rows.specs.Rows.{cell_height}
use Rattle.stream_rows.proofs.Rows.load.Given as goal

abbrev pub invariant-loop-y : goal.invariant-loop-y
invariant-loop-y l = Filling (cell_height l.self.bytes.now l.self.at l.w) (l.y * l.w) l.initial.map l.map
