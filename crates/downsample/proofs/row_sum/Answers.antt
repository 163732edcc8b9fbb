use mathlib.Core.Path.{◌≡◌}
use native.Mathlib.Omega.{arith}
use Rattle.resample.proofs.SumLaws.{row_none, row_more}
use Rattle.downsample.proofs.row_sum.Goals as goal

pub loop-i-init : goal.loop-i-init
loop-i-init c = (row_none _ _ _, omega arith)

pub loop-i-preserved : goal.loop-i-preserved
loop-i-preserved c = (row_more _ _ _ _ _ c.loop-i.invariant.0, omega arith)

pub returns : goal.returns
returns c = let e : c.loop-i.i ≡ c.args.n = omega arith in cc
