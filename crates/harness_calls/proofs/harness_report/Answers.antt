use mathlib.Core.Path.{ap, ◌∙◌}
use Rattle.harness_calls.specs.Word.{export_word}
use Rattle.harness_calls.specs.Reporting.{go_value}
use Rattle.harness_calls.proofs.harness_report.Goals as goal

pub returns : goal.returns
returns c = record {
  worded = c.go_word.ensures ∙ ap (export_word go_value) c.report-reported.ensures.answer;
  handed = c.report-reported.ensures.handed;
}
