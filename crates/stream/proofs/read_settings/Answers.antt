use mathlib.Core.Path.{sym, ap, ◌∙◌}
use native.Mathlib.Omega.{arith}
use Rattle.stream.specs.declared.Settings.TheVariants.{Fluvial, Thermal}
use Rattle.stream.proofs.ReaderLaws.{room_fluvial}
use Rattle.stream.proofs.read_settings.Goals as goal

pub read_fluvial-requires : goal.read_fluvial-requires
read_fluvial-requires c = omega (arith, room_fluvial c.args.bytes.now c.requires c.has_mark.ensures c.if-has_mark.true)

pub returns-then-has_mark : goal.returns-then-has_mark
returns-then-has_mark c = ap Fluvial c.read_fluvial.ensures ∙ sym (rw (sym c.has_mark.ensures ∙ c.if-has_mark.true))

pub read_thermal-requires : goal.read_thermal-requires
read_thermal-requires c = omega (arith, c.requires.some, c.requires.room)

pub returns : goal.returns
returns c = ap Thermal c.read_thermal.ensures ∙ sym (rw (sym c.has_mark.ensures ∙ c.if-has_mark.false))
