use Rattle.receiver_rows.proofs.DiscovererLaws.{run_all}
use Rattle.receiver_rows.proofs.RowLaws.{rows_end}
use Rattle.receiver_rows.proofs.steepest_receivers.Goals as goal

pub returns : goal.returns
returns c = run_all _ _ _ _ c.loop-y.invariant (rows_end _ _ _ c.loop-y.auto.y-end c.loop-y-test.false) c.requires.recv_len
