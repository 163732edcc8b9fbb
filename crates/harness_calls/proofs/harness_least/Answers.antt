use Rattle.std.proofs.Common.{rules, tests}
use mathlib.Core.Path.{ap, ◌∙◌}
use Rattle.harness_calls.specs.Word.{export_word, least_bits}
use Rattle.harness_calls.proofs.WordLaws.{word_of_mapped}
use Rattle.harness_calls.proofs.harness_least.Goals as goal

pub returns : goal.returns
returns c =
    let m = word_of_mapped least_bits c.get_min_max.result c.map.result c.map.ensures.cases in
    c.answer_word.ensures ∙ m (λ x v k. search (rules, tests)) ∙ ap (export_word least_bits) c.get_min_max.ensures
