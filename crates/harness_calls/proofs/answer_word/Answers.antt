use mathlib.Core.Path.{sym, ap}
use Rattle.answers.specs.Outcome.{answer_of}
use Rattle.harness_calls.proofs.WordLaws.{word_of_refusal}
use Rattle.harness_calls.proofs.answer_word.Goals as goal

pub returns-in-Err : goal.returns-in-Err
returns-in-Err c = word_of_refusal (λ v. v) (answer_of c.args.a) c.in-Err.r (ap answer_of (sym c.in-Err.is)) c.refusal_word.ensures
