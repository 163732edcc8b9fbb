use Rattle.std.proofs.Common.{rules, tests}
use mathlib.Core.Path.{◌∙◌}
use Rattle.harness_calls.proofs.WordLaws.{word_of_mapped}
use Rattle.harness_calls.proofs.word.Goals as goal

pub returns : goal.returns
returns c =
    let m = word_of_mapped (λ _. 0) c.args.a c.map.result c.map.ensures.cases in
    c.answer_word.ensures ∙ m (λ x v k. search (rules, tests))
