use mathlib.Core.Path.{sym, ap, ◌∙◌}
use Rattle.stream.specs.Stream.{bad_settings}
use Rattle.stream.proofs.bad_settings.Goals as goal

pub returns-in-Fluvial : goal.returns-in-Fluvial
returns-in-Fluvial c = c.bad_fluvial.ensures ∙ ap bad_settings (sym c.in-Fluvial.is)

pub returns-in-Thermal : goal.returns-in-Thermal
returns-in-Thermal c = c.bad_thermal.ensures ∙ ap bad_settings (sym c.in-Thermal.is)
