use native.Mathlib.Omega.{arith}
use lib.ListN.{length-replicate}
use lib.Ieee.{Float, binary32, of_bits}
use Rattle.loops.proofs.FillLaws.{filling_none, filling_more}
use Rattle.incision_rates.proofs.TableLaws.{table_done}
use Rattle.incision_rates.proofs.Rates.new.Goals as goal

pub loop-i-init : goal.loop-i-init
loop-i-init c = (filling_none, omega arith)

pub loop-i-preserved : goal.loop-i-preserved
loop-i-preserved c = (filling_more c.loop-i.invariant.0 c.rate.ensures (omega (arith, length-replicate {A = Float} 1024 (of_bits binary32 0), c.loop-i-test.true, c.requires)), omega (arith, c.loop-i-test.true))

pub invariant_of-result-clause-made : goal.invariant_of-result-clause-made
invariant_of-result-clause-made c = table_done _ _ _ c.loop-i.invariant.0 c.loop-i.invariant.1 c.loop-i-test.false
