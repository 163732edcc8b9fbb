use Rattle.std.proofs.Common.{Bool, cond, sym, ap}
use Rattle.floats.proofs.max.Goals as goal

pub returns-then-a-b : goal.returns-then-a-b
returns-then-a-b c = sym (ap (λ (t : Bool). cond t c.args.a c.args.b) c.if-a-b.true)

pub returns-else-a-b : goal.returns-else-a-b
returns-else-a-b c = sym (ap (λ (t : Bool). cond t c.args.a c.args.b) c.if-a-b.false)
