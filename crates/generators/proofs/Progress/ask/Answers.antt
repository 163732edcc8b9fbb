use mathlib.Core.Path.{sym}
use Rattle.generators.proofs.MarksLaws.{report_stopped, report_asks, report_quiet}
use Rattle.generators.proofs.Progress.ask.Goals as goal

pub returns-then-self : goal.returns-then-self
returns-then-self c = sym (report_stopped _ _ _ c.if-self.true)

pub returns-then-p-self : goal.returns-then-p-self
returns-then-p-self c = sym (report_asks _ _ _ c.if-self.false c.if-p-self.true)

pub returns : goal.returns
returns c = sym (report_quiet _ _ _ c.if-self.false c.if-p-self.false)
