use Rattle.std.proofs.Common.{rules, tests}
use mathlib.Core.Path.{ap, ◌∙◌}
use lib.Ieee.{binary32, to_bits}
use Rattle.harness_calls.specs.Word.{export_word}
use Rattle.harness_calls.proofs.WordLaws.{word_of_mapped}
use Rattle.harness_calls.proofs.harness_bilinear.Goals as goal

pub returns : goal.returns
returns c =
    let m = word_of_mapped (to_bits binary32) c.bilinear.result c.map.result c.map.ensures.cases in
    c.answer_word.ensures ∙ m (λ x v k. search (rules, tests)) ∙ ap (export_word (to_bits binary32)) c.bilinear.ensures
