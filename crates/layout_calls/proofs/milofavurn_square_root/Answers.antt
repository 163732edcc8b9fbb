use mathlib.Core.Path.{sym, ap, ◌∙◌}
use lib.Ieee.{binary32, to_bits}
use Rattle.answers.specs.Outcome.{answer_of}
use Rattle.square_root.specs.Root.{root_answer}
use Rattle.layout_calls.proofs.WordLaws.{word_given, word_of_refusal}
use Rattle.layout_calls.proofs.milofavurn_square_root.Goals as goal

pub returns-in-Ok : goal.returns-in-Ok
returns-in-Ok c = word_given (to_bits binary32) (root_answer c.args.x) c.in-Ok.root
    (ap answer_of (sym c.in-Ok.is) ∙ c.root-answer.ensures.answer) c.to_bits.ensures c.pack.ensures

pub returns-in-Err : goal.returns-in-Err
returns-in-Err c = word_of_refusal (to_bits binary32) (root_answer c.args.x) c.in-Err.refusal
    (ap answer_of (sym c.in-Err.is) ∙ c.root-answer.ensures.answer) c.refused.ensures
