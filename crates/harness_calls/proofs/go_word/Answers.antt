use Rattle.std.proofs.Common.{rules, tests}
use Rattle.std.specs.declared.result.Result.{Result}
use Rattle.std.specs.declared.result.Result.TheVariants.{Ok, Err}
use Prim.Native.Nat.{ℕ}
use mathlib.Core.Path.{◌≡◌, refl, sym, ◌∙◌}
use Rattle.answers.specs.Outcome.{answer_of}
use Rattle.answers.specs.declared.Refusal.{Refusal}
use Rattle.generators.specs.declared.Go.{Go}
use Rattle.generators.specs.Marks.{go_of}
use Rattle.harness_calls.specs.Word.{export_word}
use Rattle.harness_calls.specs.Reporting.{go_value}
use Rattle.harness_calls.proofs.WordLaws.{word_refused, word_of_mapped}
use Rattle.harness_calls.proofs.go_word.Goals as goal

abbrev word_at : Go → ℕ
word_at Go.On = 1
word_at Go.Stop = 0

go_words : (a : Result Go Refusal) → export_word word_at (answer_of a) ≡ export_word go_value (go_of a)
go_words (Ok Go.On) = refl
go_words (Ok Go.Stop) = refl
go_words (Err e) = word_refused word_at e ∙ sym (word_refused go_value e)

pub returns : goal.returns
returns c =
    let m = word_of_mapped word_at c.args.go c.map.result c.map.ensures.cases in
    c.answer_word.ensures ∙ m (λ x v k. search (rules, tests)) ∙ go_words c.args.go
