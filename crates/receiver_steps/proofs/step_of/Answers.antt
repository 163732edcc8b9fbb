use borrow.Author.Tests.{lt-ltb, le-ltb}
use Rattle.receiver_steps.specs.Step.{step_of}
use Rattle.receiver_steps.proofs.step_of.Goals as goal

pub returns-then-past-width : goal.returns-then-past-width
unfolding step_of
returns-then-past-width c = rw (lt-ltb _ _ c.if-past-width.true)

pub returns-then-past-width-2 : goal.returns-then-past-width-2
unfolding step_of
returns-then-past-width-2 c = rw (le-ltb _ _ c.if-past-width.false, lt-ltb _ _ c.if-past-width-2.true)

pub returns : goal.returns
unfolding step_of
returns c = rw (le-ltb _ _ c.if-past-width.false, le-ltb _ _ c.if-past-width-2.false)
