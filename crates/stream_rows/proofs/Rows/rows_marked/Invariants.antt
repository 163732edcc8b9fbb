use mathlib.Core.Path.{◌≡◌}
use mathlib.Core.Bool.{true}
use Rattle.stream_rows.specs.Rows.{rows_marked}
use Rattle.stream_rows.proofs.Rows.rows_marked.Given as goal

abbrev pub invariant-loop-y : goal.invariant-loop-y
invariant-loop-y l = rows_marked l.self.bytes.now l.self.at l.self.size.w l.y ≡ true
