use mathlib.Core.Path.{◌∙◌}
use Rattle.grid_spacing.proofs.SquareLaws as laws
use Rattle.grid_spacing.proofs.square_distances.Goals as goal

pub returns : goal.returns
returns c = c.distances_of.ensures ∙ laws.square_distances_lem
