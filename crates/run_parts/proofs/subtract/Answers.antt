use Rattle.loops.proofs.FillLaws.{filling_none, filling_length}
use Rattle.run_parts.proofs.ReachedLaws.{subtracted_more, subtracted_done}
use native.Mathlib.Omega.{arith}
use Rattle.run_parts.proofs.subtract.Goals as goal

pub loop-i-init : goal.loop-i-init
loop-i-init c = filling_none

pub offset_bounds-eroded-i : goal.offset_bounds-eroded-i
offset_bounds-eroded-i c = omega (arith, filling_length c.loop-i.invariant)

pub loop-i-preserved : goal.loop-i-preserved
loop-i-preserved c = subtracted_more _ c.args.small.now c.loop-i.invariant (omega arith)

pub returns : goal.returns
returns c = subtracted_done _ _ c.loop-i.invariant c.requires c.loop-i-test.false
