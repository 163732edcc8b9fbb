use mathlib.Core.Path.{◌≡◌, sym, ap, ◌∙◌}
use Rattle.answers.specs.Outcome.{answer_of}
use Rattle.thermal_erosion.proofs.SlideLaws.{pass_ready, made_refused, made_passed, passed_by}
use Rattle.thermal_erosion.proofs.slide_checked.Goals as goal

pub returns-in-Err : goal.returns-in-Err
returns-in-Err c = made_refused _ _ _ _ _ _ _ _ (ap answer_of (sym c.in-Err.is) ∙ c.pass_refusal.ensures)

pub slide_pass_into-reached-requires : goal.slide_pass_into-reached-requires
slide_pass_into-reached-requires c = pass_ready _ _ _ _ _ c.args.by.marks (ap answer_of (sym c.in_default.is) ∙ c.pass_refusal.ensures) c.requires

pub returns : goal.returns
returns c = made_passed _ _ _ _ _ _ _ (ap answer_of (sym c.in_default.is) ∙ c.pass_refusal.ensures) (passed_by _ _ c.slide_pass_into-reached.ensures c.pass_answer.ensures)
