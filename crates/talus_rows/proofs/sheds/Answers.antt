use mathlib.Core.Path.{refl}
use Rattle.talus_rows.proofs.sheds.Goals as goal

pub returns-then-total : goal.returns-then-total
returns-then-total c = rw c.if-total.true refl

pub returns-else-total : goal.returns-else-total
returns-else-total c = rw c.if-total.false refl
