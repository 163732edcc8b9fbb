use Rattle.stream_bytes.proofs.PutLaws.{Putting}
use Rattle.stream_output.specs.Output.{row_records}
use Rattle.stream_output.proofs.put_rows.Given as goal

abbrev pub invariant-loop-y : goal.invariant-loop-y
invariant-loop-y l = Putting l.initial.out 6 l.h (row_records l.map l.w) l.y l.out
