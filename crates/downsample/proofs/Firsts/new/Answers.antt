use native.Mathlib.Omega.{arith}
use Rattle.loops.proofs.FillLaws.{filling_none, filling_more}
use Rattle.downsample.proofs.FirstsLaws.{firsts_done}
use Rattle.downsample.proofs.Firsts.new.Goals as goal

pub loop-b-init : goal.loop-b-init
loop-b-init c = filling_none

pub loop-b-preserved : goal.loop-b-preserved
loop-b-preserved c = filling_more c.loop-b.invariant c.first_of.ensures (omega arith)

pub invariant_of-result : goal.invariant_of-result
invariant_of-result c = record {
  side_high = c.requires.side_high;
  reduced_low = c.requires.reduced_low;
  reduced_high = c.requires.reduced_high;
  made = firsts_done _ _ (rw c.requires.zeros at c.loop-b.invariant) (omega arith) c.loop-b-test.false;
}
