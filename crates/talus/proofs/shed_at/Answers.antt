use Rattle.talus.proofs.CountedLaws.{shed_counted}
use Rattle.talus.proofs.shed_at.Goals as goal

pub returns : goal.returns
returns c = shed_counted _ _ _ _ _ _ c.excess-e.ensures c.where_counted.ensures c.max.ensures c.where_counted-2.ensures
