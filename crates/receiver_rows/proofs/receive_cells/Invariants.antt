use Prim.Native.Nat.{◌+◌, ◌*◌}
use Rattle.receiver_blocks.specs.Runs.{RunReceived}
use Rattle.receiver_rows.proofs.receive_cells.Given as goal

abbrev pub invariant-loop-i : goal.invariant-loop-i
invariant-loop-i l = RunReceived l.tables.distances l.spill.size.w l.spill.size.h l.spill.heights.now (l.x + l.y * l.w) (l.i + l.y * l.w) l.initial.recv l.recv
