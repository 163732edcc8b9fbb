use mathlib.Core.Path.{◌≡◌}
use Rattle.loops.specs.Loops.{tabulate}
use Rattle.grid.specs.Heights.{all_finite}
use Rattle.stream_rows.specs.Rows.{height_at}
use Rattle.stream_rows.proofs.Rows.row_finite.Given as goal

abbrev pub invariant-loop-x : goal.invariant-loop-x
invariant-loop-x l = l.good ≡ all_finite (tabulate l.x (λ k. height_at l.self.bytes.now l.self.at l.self.size.w k l.y))
