use Rattle.talus.proofs.CountedLaws.{gain_counted}
use Rattle.talus.proofs.gain_at.Goals as goal

pub returns : goal.returns
returns c = gain_counted _ _ _ _ _ _ _ _ c.excess-e.ensures c.where_counted.ensures
