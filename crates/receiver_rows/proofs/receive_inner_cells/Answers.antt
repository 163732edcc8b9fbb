use native.Mathlib.Omega.{arith}
use Rattle.grid_inner.proofs.InnerLaws.{run_part}
use Rattle.receiver_rows.proofs.receive_inner_cells.Goals as goal

pub invariant_of-block : goal.invariant_of-block
invariant_of-block c = record { inner = run_part c.loop-i.i _ c.requires.inner_run (omega (arith, c.min-count.ensures, c.loop-i-test.true)); few = omega (arith, c.min-count.ensures) }
