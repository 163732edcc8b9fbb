use Rattle.std.proofs.Common.{ap}
use lib.Ieee.{binary32, sub}
use Rattle.floats.proofs.fract.Goals as goal

pub returns : goal.returns
returns c = ap (sub binary32 c.args.x) c.trunc.ensures
