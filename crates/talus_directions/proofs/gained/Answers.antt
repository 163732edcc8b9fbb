use mathlib.Core.Path.{refl}
use Rattle.talus_directions.proofs.gained.Goals as goal

pub returns-then-total : goal.returns-then-total
returns-then-total c = rw c.if-total.true refl

pub returns-then-e : goal.returns-then-e
returns-then-e c = rw (c.if-total.false, c.if-e.true) refl

pub returns-else-e : goal.returns-else-e
returns-else-e c = rw (c.if-total.false, c.if-e.false) refl
