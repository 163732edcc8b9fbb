use Prim.Native.Nat.{ℕ}
use native.Mathlib.Omega.{arith}
use mathlib.Core.Path.{refl}
use lib.ListN.{length-replicate}
use Rattle.loops.proofs.FillLaws.{filling_none, filling_length, filling_more, filling_done}
use Rattle.receiver_steps.specs.Step.{step_offsets}
use Rattle.receiver_steps.proofs.Steps.new.Goals as goal

pub loop-s-init : goal.loop-s-init
loop-s-init c = filling_none

pub loop-s-preserved : goal.loop-s-preserved
loop-s-preserved c = filling_more c.loop-s.invariant refl (omega (arith, length-replicate {A = ℕ} 16 0, filling_length c.loop-s.invariant, c.loop-s-test.true))

pub invariant_of-result-clause-made : goal.invariant_of-result-clause-made
unfolding step_offsets
invariant_of-result-clause-made c = filling_done c.loop-s.invariant 16 (length-replicate {A = ℕ} 16 0) (omega (arith, length-replicate {A = ℕ} 16 0, filling_length c.loop-s.invariant, c.loop-s-test.false))
