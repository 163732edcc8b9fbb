use mathlib.Core.Path.{refl, sym, ap, ◌∙◌}
use mathlib.Core.Bool.{false}
use Rattle.stream.specs.Stream.{parsed_of, read_stream, read_of}
use Rattle.layout_calls.proofs.WordLaws.{word_given, word_of_refusal}
use Rattle.layout_calls.proofs.milofavurn_stream_check.Goals as goal

pub returns-in-Ok : goal.returns-in-Ok
returns-in-Ok c = word_given (λ _. 0) (read_stream false c.args.bytes.now) (parsed_of c.args.bytes.now c.in-Ok.field-0)
    (ap (read_of c.args.bytes.now) (sym c.in-Ok.is) ∙ c.read_stream-answer.ensures) refl c.pack.ensures

pub returns-in-Err : goal.returns-in-Err
returns-in-Err c = word_of_refusal (λ _. 0) (read_stream false c.args.bytes.now) c.in-Err.refusal
    (ap (read_of c.args.bytes.now) (sym c.in-Err.is) ∙ c.read_stream-answer.ensures) c.refused.ensures
