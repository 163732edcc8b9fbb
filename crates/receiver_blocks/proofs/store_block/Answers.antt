use Prim.Native.Nat.{◌+◌, ◌<◌}
use native.Mathlib.Omega.{arith}
use lib.ListN.{length}
use Rattle.receiver_blocks.proofs.OffsetLaws.{inner_inside}
use Rattle.receiver_blocks.proofs.BlockLaws.{stored_more}
use Rattle.receiver_blocks.proofs.store_block.Goals as goal
use Rattle.receiver_blocks.proofs.store_block.Goals.{In-loop-i}

inside : (c : In-loop-i) → c.args.block.now.first + c.loop-i.i < length c.args.recv.now
inside c = omega (arith, inner_inside (c.args.block.now.inner.inner c.loop-i.i c.loop-i-test.true), c.requires.recv_len)

pub bounds-recv-c : goal.bounds-recv-c
bounds-recv-c c = omega (arith, inside (goal.at.bounds-recv-c c).In-loop-i, c.loop-i.auto.recv)

pub bounds-recv-c-in-loop-i : goal.bounds-recv-c-in-loop-i
bounds-recv-c-in-loop-i c = omega (arith, inside (goal.at.bounds-recv-c-in-loop-i c).In-loop-i, c.loop-i.auto.recv)

pub loop-i-preserved : goal.loop-i-preserved
loop-i-preserved c = stored_more c.loop-i.invariant (inside (goal.at.loop-i-preserved c).In-loop-i) c.receiver_inside.ensures
