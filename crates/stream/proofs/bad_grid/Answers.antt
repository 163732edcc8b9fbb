use borrow.Author.Tests.{lt-ltb}
use mathlib.Core.Path.{◌∙◌}
use Rattle.stream.proofs.RecordLaws.{grid_short, grid_mark_lem}
use Rattle.stream.proofs.bad_grid.Goals as goal

pub returns-then-bytes-lt6 : goal.returns-then-bytes-lt6
returns-then-bytes-lt6 c = lt-ltb _ 6 c.if-bytes-lt6.true ∙ grid_short c.args.bytes.now c.if-bytes-lt6.true

pub returns-else-bytes-lt6 : goal.returns-else-bytes-lt6
returns-else-bytes-lt6 c = grid_mark_lem c.args.bytes.now _ c.if-bytes-lt6.false c.has_mark.ensures
