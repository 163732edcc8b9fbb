use Prim.Native.Nat.{◌*◌}
use Rattle.receiver_blocks.specs.Runs.{RunReceived}
use Rattle.receiver_rows.proofs.steepest_receivers.Given as goal

abbrev pub invariant-loop-y : goal.invariant-loop-y
invariant-loop-y l = RunReceived l.fn.ds l.fn.g.w l.fn.g.h l.fn.spill 0 (l.y * l.fn.g.w) l.initial.recv l.recv
