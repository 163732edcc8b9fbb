use Rattle.incision_rates.proofs.TableLaws.{rates_read}
use Rattle.incision_rates.proofs.Rates.of.Goals as goal

pub returns-then-i-self : goal.returns-then-i-self
returns-then-i-self c = rates_read _ _ _ _ _ c.args.self.now.made c.if-i-self.true
