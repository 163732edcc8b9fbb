use mathlib.Core.Path.{sym, ◌∙◌}
use Rattle.resample.proofs.RefusalLaws.{sides_good}
use Rattle.resample.proofs.work_size.Goals as goal

pub returns-then-bad_sides : goal.returns-then-bad_sides
returns-then-bad_sides c = rw (sym c.bad_sides.ensures ∙ c.if-bad_sides.true)

pub work_sides-requires : goal.work_sides-requires
work_sides-requires c = let p = sides_good _ _ (sym c.bad_sides.ensures ∙ c.if-bad_sides.false) in record { w_bound = p.0; h_bound = p.1 }

pub returns : goal.returns
returns c = rw (sym c.bad_sides.ensures ∙ c.if-bad_sides.false, c.work_sides.ensures)
