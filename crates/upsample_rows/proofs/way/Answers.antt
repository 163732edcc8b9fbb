use Rattle.upsample_rows.proofs.MixLaws.{way_is}
use Rattle.upsample_rows.proofs.way.Goals as goal

pub returns : goal.returns
returns c = let a = c.args in way_is a.side a.reduced a.x c.centre.ensures c.fract.ensures
