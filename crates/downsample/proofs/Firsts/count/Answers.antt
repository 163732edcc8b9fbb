use Prim.Native.Nat.{◌-◌}
use mathlib.Core.Path.{ap₂}
use native.Mathlib.Omega.{arith}
use Rattle.downsample.proofs.FirstsLaws.{first_read, block_run}
use Rattle.downsample.proofs.Firsts.count.Goals as goal

pub overflow_sub-result : goal.overflow_sub-result
overflow_sub-result c = let f = c.args.self.now in omega (arith, block_run _ _ _ f.made f.reduced_low f.reduced_high c.requires)

pub returns : goal.returns
returns c = let f = c.args.self.now in ap₂ ◌-◌ (first_read _ _ _ (omega arith) f.made) (first_read _ _ _ (omega arith) f.made)
