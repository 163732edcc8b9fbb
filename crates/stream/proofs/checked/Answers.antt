use Rattle.stream.proofs.ReaderLaws.{values_height, values_given}
use Rattle.stream.proofs.checked.Goals as goal

pub returns-in-Some : goal.returns-in-Some
returns-in-Some c = values_height c.args.bytes.now c.args.head c.bad_settings.ensures c.if-bad_settings.false c.first_bad_height.ensures c.in-Some.is

pub returns : goal.returns
returns c = values_given c.args.bytes.now c.args.head c.bad_settings.ensures c.if-bad_settings.false c.first_bad_height.ensures c.in_default.is
