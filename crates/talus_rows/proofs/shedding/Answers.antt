use Prim.Native.Nat.{◌+◌, ◌≤◌}
use mathlib.Core.Path.{refl}
use native.Mathlib.Omega.{arith}
use Rattle.talus_rows.specs.Blocks.{shedders}
use Rattle.talus_rows.proofs.BlockLaws.{shedders_most, shedders_more, shedders_end}
use Rattle.talus_rows.proofs.shedding.Goals as goal
use Rattle.talus_rows.proofs.shedding.Goals.{After-sheds-k}

pub loop-i-init : goal.loop-i-init
unfolding shedders
loop-i-init c = (refl, omega arith)

-- at most as many as were looked at
few : (c : After-sheds-k) → c.loop-i.k + c.sheds-k.result ≤ c.loop-i.i + 1
few c = omega (arith, shedders_more _ c.loop-i.i _ _ c.loop-i.invariant.0 c.sheds-k.ensures, shedders_most c.args.totals.now (c.loop-i.i + 1))

pub overflow_add-k : goal.overflow_add-k
overflow_add-k c = omega (arith, few c, c.loop-i-test.true, c.requires)

pub loop-i-preserved : goal.loop-i-preserved
loop-i-preserved c = (shedders_more _ c.loop-i.i _ _ c.loop-i.invariant.0 c.sheds-k.ensures, omega (arith, c.loop-i-test.true))

pub returns : goal.returns
returns c = shedders_end _ c.loop-i.invariant.0 c.loop-i.invariant.1 c.loop-i-test.false
