use borrow.Author.Tests.{ne_eqb}
use mathlib.Core.Path.{ap, ◌∙◌}
use mathlib.Core.Bool.{not}
use native.Mathlib.Omega.{arith}
use Rattle.stream_rows.proofs.RowLaws.{rows_fit}
use Rattle.stream.proofs.RecordLaws.{settings_few, rest_mark, rest_length, rest_rows}
use Rattle.stream.proofs.bad_rest.Goals as goal

pub returns-then-settings-eq0 : goal.returns-then-settings-eq0
returns-then-settings-eq0 c = rest_mark c.args.bytes.now _ _ _ c.settings_length-settings.ensures c.if-settings-eq0.true

pub overflow_add-rows : goal.overflow_add-rows
overflow_add-rows c = omega (arith, settings_few c.args.bytes.now _ c.settings_length-settings.ensures)

pub overflow_add-rows-2 : goal.overflow_add-rows-2
overflow_add-rows-2 c = omega (arith, settings_few c.args.bytes.now _ c.settings_length-settings.ensures, c.rows_length.ensures, rows_fit _ _ c.requires)

pub returns-then-bytes-rows : goal.returns-then-bytes-rows
returns-then-bytes-rows c = ap not (ne_eqb _ _ c.if-bytes-rows.true) ∙ rest_length c.args.bytes.now _ _ _ _ c.settings_length-settings.ensures c.rows_length.ensures c.if-settings-eq0.false c.if-bytes-rows.true

pub returns-else-bytes-rows : goal.returns-else-bytes-rows
returns-else-bytes-rows c = rest_rows c.args.bytes.now _ _ _ _ c.settings_length-settings.ensures c.rows_length.ensures c.if-settings-eq0.false c.if-bytes-rows.false _ c.rows_marked.ensures
