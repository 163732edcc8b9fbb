use mathlib.Core.Path.{◌≡◌}
use native.Mathlib.Omega.{arith}
use Rattle.resample.proofs.SumLaws.{block_none, block_more, part_row}
use Rattle.downsample.proofs.block_sum.Goals as goal

pub loop-i-init : goal.loop-i-init
loop-i-init c = (block_none _ _ _ _ _, omega arith)

pub overflow_mul-y : goal.overflow_mul-y
overflow_mul-y c = omega (arith, part_row c.requires c.loop-i-test.true)

pub overflow_add-x : goal.overflow_add-x
overflow_add-x c = omega (arith, part_row c.requires c.loop-i-test.true)

pub row_sum-sum-requires : goal.row_sum-sum-requires
row_sum-sum-requires c = (part_row c.requires c.loop-i-test.true).0

pub loop-i-preserved : goal.loop-i-preserved
loop-i-preserved c = (block_more _ _ _ _ _ _ _ _ c.loop-i.invariant.0 c.row_sum-sum.ensures, omega arith)

pub returns : goal.returns
returns c = let e : c.loop-i.i ≡ c.args.rows = omega arith in cc
