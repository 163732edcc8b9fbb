use mathlib.Core.Path.{sym, ap, ◌∙◌}
use mathlib.Core.Bool.{Bool, not}
use Rattle.answers.specs.Outcome.{gives}
use Rattle.generators.proofs.MarksLaws.{asked_fits, report_refused, report_made}
use Rattle.generators.proofs.Progress.report.Goals as goal

pub returns-then-bad_report : goal.returns-then-bad_report
returns-then-bad_report c = report_refused _ _ _ (sym c.bad_report.ensures ∙ c.if-bad_report.true)

pub ask-after-requires : goal.ask-after-requires
ask-after-requires c = asked_fits c.args.self _ (sym c.bad_report.ensures ∙ c.if-bad_report.false)

pub returns-then-after : goal.returns-then-after
returns-then-after c = report_made _ _ _ _ _ (sym c.bad_report.ensures ∙ c.if-bad_report.false) c.ask-after.ensures
    (sym (ap (λ (t : Bool). gives (not t)) c.if-after.true))

pub returns-else-after : goal.returns-else-after
returns-else-after c = report_made _ _ _ _ _ (sym c.bad_report.ensures ∙ c.if-bad_report.false) c.ask-after.ensures
    (sym (ap (λ (t : Bool). gives (not t)) c.if-after.false))
