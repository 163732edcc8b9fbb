use Rattle.answers.specs.Outcome.{answer_of}
use mathlib.Core.Path.{sym, ap, ◌∙◌}
use Rattle.resample.specs.WorkSize.{work_answer}
use Rattle.layout_calls.specs.Word.{sides_value}
use Rattle.layout_calls.proofs.WordLaws.{word_given, word_of_refusal, sides_small}
use Rattle.layout_calls.proofs.milofavurn_working_sides.Goals as goal

pub sides_value-requires : goal.sides_value-requires
sides_value-requires c = let p = sides_small c.args.w c.args.h c.args.max_res c.in-Ok.size
    (ap answer_of (sym c.in-Ok.is) ∙ c.work_size-answer.ensures) in record { w_bound = p.0; h_bound = p.1 }

pub returns-in-Ok : goal.returns-in-Ok
returns-in-Ok c = word_given sides_value (work_answer c.args.w c.args.h c.args.max_res) c.in-Ok.size
    (ap answer_of (sym c.in-Ok.is) ∙ c.work_size-answer.ensures) c.sides_value.ensures c.pack.ensures

pub returns-in-Err : goal.returns-in-Err
returns-in-Err c = word_of_refusal sides_value (work_answer c.args.w c.args.h c.args.max_res) c.in-Err.side
    (ap answer_of (sym c.in-Err.is) ∙ c.work_size-answer.ensures) c.refused.ensures
