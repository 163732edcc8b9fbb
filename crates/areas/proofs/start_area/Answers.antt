use mathlib.Core.Path.{sym, subst}
use mathlib.Core.Bool.{Bool, not}
use borrow.Author.Tests.{eq-eqb, ne_eqb}
use Rattle.areas.specs.Words.{start_area, WholeArea}
use Rattle.areas.proofs.WordLaws.{area_cast, one_number}
use Rattle.areas.proofs.start_area.Goals as goal

pub float_to_int-result : goal.float_to_int-result
float_to_int-result g c = area_cast (subst (λ (b : Bool). WholeArea (start_area (not b) c.args.area)) (ne_eqb _ 0 c.if-this-ne0.true) c.requires)

pub returns-else-this-ne0 : goal.returns-else-this-ne0
returns-else-this-ne0 g c = rw (eq-eqb _ 0 c.if-this-ne0.false) (sym one_number)
