use mathlib.Core.Path.{refl}
use Rattle.lent_list_marks.specs.Seen.{is_marked}
use Rattle.lent_list_marks.proofs.marked.Goals as goal

pub returns : goal.returns
unfolding is_marked
returns c = refl
