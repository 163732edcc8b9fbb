use mathlib.Core.Path.{refl}
use Rattle.talus_rows.proofs.dry_total.Goals as goal

pub returns-then-height-water : goal.returns-then-height-water
returns-then-height-water c = rw c.if-height-water.true refl

pub returns-else-height-water : goal.returns-else-height-water
returns-else-height-water c = rw c.if-height-water.false refl
