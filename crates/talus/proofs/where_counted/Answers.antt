use mathlib.Core.Path.{sym, ap}
use mathlib.Core.Bool.{Bool, cond}
use Rattle.talus.proofs.where_counted.Goals as goal

pub returns-then-e : goal.returns-then-e
returns-then-e c = sym (ap (λ (t : Bool). cond t c.args.counted c.args.not) c.if-e.true)

pub returns-else-e : goal.returns-else-e
returns-else-e c = sym (ap (λ (t : Bool). cond t c.args.counted c.args.not) c.if-e.false)
