use native.Mathlib.Omega.{arith}
use Rattle.stream.proofs.RecordLaws.{settings_few}
use Rattle.stream.proofs.ReaderLaws.{whole_recorded, header_is}
use Rattle.stream.proofs.read_header.Goals as goal

pub overflow_add-rows : goal.overflow_add-rows
overflow_add-rows c = omega (arith, settings_few c.args.bytes.now _ c.settings_length-rows.ensures)

pub read_settings-requires : goal.read_settings-requires
read_settings-requires c = whole_recorded c.requires.whole

pub read_u32-requires : goal.read_u32-requires
read_u32-requires c = let r = whole_recorded c.requires.whole in omega (arith, r.some, r.room, c.settings_length-rows.ensures)

pub returns : goal.returns
returns c = header_is c.args.bytes.now c.requires.size_value c.settings_length-rows.ensures c.read_settings.ensures c.read_u32.ensures
