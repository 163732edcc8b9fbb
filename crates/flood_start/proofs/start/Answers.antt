use mathlib.Core.Path.{ap, ◌∙◌}
use Rattle.loops.specs.Loops.{tabulate}
use Rattle.flood_start.proofs.StartLaws.{started}
use Rattle.flood_start.proofs.start.Goals as goal

pub returns : goal.returns
returns c = started _ _ _ _ _ _ _ c.mark_base.ensures c.copy_heights.ensures (c.own_cells.ensures ∙ ap (λ n. tabulate n (λ c. c)) c.requires.recv_len)
