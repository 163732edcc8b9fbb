use mathlib.Core.Path.{ap, ◌∙◌}
use mathlib.Core.Bool.{cond}
use Rattle.flood_start.proofs.StartLaws.{flag_number}
use Rattle.flood_start.proofs.start_status.Goals as goal

pub returns : goal.returns
returns c = c.from.ensures ∙ flag_number c.is_base.result ∙ ap (λ b. cond b 1 0) c.is_base.ensures
