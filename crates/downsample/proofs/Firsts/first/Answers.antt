use native.Mathlib.Omega.{arith}
use Rattle.downsample.proofs.FirstsLaws.{first_read}
use Rattle.downsample.proofs.Firsts.first.Goals as goal

pub returns : goal.returns
returns c = first_read _ _ _ (omega arith) c.args.self.now.made
