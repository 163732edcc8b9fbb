use Rattle.lent_receivers.proofs.ReceiverLaws.{no_cell, off_bands}
use Rattle.lent_receivers.proofs.bad_receiver.Goals as goal

pub returns-then-w-size : goal.returns-then-w-size
returns-then-w-size c = no_cell _ _ _ _ c.if-w-size.true

pub returns : goal.returns
returns c = off_bands _ _ _ _ c.requires.column c.requires.row _ _ _ (rw c.min.ensures) (rw c.min-2.ensures) c.if-w-size.false
