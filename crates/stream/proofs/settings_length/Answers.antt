use Rattle.stream.proofs.RecordLaws.{settings_fluvial, settings_thermal, settings_none}
use Rattle.stream.proofs.settings_length.Goals as goal

pub returns-then-has_mark : goal.returns-then-has_mark
returns-then-has_mark c = settings_fluvial c.args.bytes.now _ c.has_mark.ensures c.if-has_mark.true

pub returns-then-has_mark-2 : goal.returns-then-has_mark-2
returns-then-has_mark-2 c = settings_thermal c.args.bytes.now _ _ c.has_mark.ensures c.if-has_mark.false c.has_mark-2.ensures c.if-has_mark-2.true

pub returns : goal.returns
returns c = settings_none c.args.bytes.now _ _ c.has_mark.ensures c.if-has_mark.false c.has_mark-2.ensures c.if-has_mark-2.false
