-- A report by the C convention: the answer in one word, and the record after it.
use Rattle.std.specs.Prelude.{ℕ, ◌≡◌, Bool, true, false, Float}
use Rattle.generators.specs.Marks.{report_answer, report_record}
use Rattle.generators.specs.declared.Progress.{Progress}
use Rattle.harness_calls.specs.Word.{export_word}

-- 1 to go on, 0 to stop
abbrev pub go_value : Bool → ℕ
go_value true = 1
go_value false = 0

pub record Reporting (m : Progress) (p : Float) (stop : ℕ) (after : Progress) (word : ℕ) : Type 0 where
  pub worded : word ≡ export_word go_value (report_answer m p stop)
  pub handed : after ≡ report_record m p stop
