use Prim.Native.Nat.{◌+◌, ◌-◌}
use Rattle.std.specs.Prelude.{min}
use Rattle.receiver_blocks.specs.Runs.{RunReceived}
use Rattle.receiver_rows.proofs.receive_inner_cells.Given as goal

abbrev pub invariant-loop-i : goal.invariant-loop-i
invariant-loop-i l = RunReceived l.tables.distances l.spill.size.w l.spill.size.h l.spill.heights.now l.c (l.c + min l.i l.n) l.initial.recv l.recv

abbrev pub decreases-loop-i : goal.decreases-loop-i
decreases-loop-i l = l.n - l.i
