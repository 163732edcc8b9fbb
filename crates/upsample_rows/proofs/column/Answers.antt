use Rattle.upsample_rows.proofs.MixLaws.{column_is}
use Rattle.upsample_rows.proofs.column.Goals as goal

pub returns : goal.returns
returns c = let a = c.args in column_is a.side a.reduced a.x c.centre.ensures c.index.ensures
