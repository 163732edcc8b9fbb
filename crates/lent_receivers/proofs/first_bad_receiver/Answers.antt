use Rattle.std.proofs.Common.{arith}
use Rattle.grid.proofs.SidesLaws.{cell_lt}
use Rattle.loops.proofs.FirstLaws.{rows_more, rows_stop, rows_end}
use Rattle.loops.proofs.PlaceLaws.{searched_some, searched_past, first_here, first_none}
use Rattle.lent_receivers.proofs.first_bad_receiver.Goals as goal

pub returns-in-Some : goal.returns-in-Some
returns-in-Some c =
    let found = searched_some c.first_in_row.ensures c.in-Some.is in
    let first = rows_stop _ _ _ c.loop-y.invariant.1 found.0 found.1 c.loop-y-test.true in
    first_here first (omega (arith, cell_lt _ _ _ found.1 _ c.loop-y-test.true))

pub loop-y-preserved : goal.loop-y-preserved
loop-y-preserved c = (omega (arith, c.loop-y-test.true), rows_more _ _ _ c.loop-y.invariant.1 c.first_in_row.ensures.fact (searched_past c.first_in_row.ensures c.in_default.is))

pub returns : goal.returns
returns c = first_none (rows_end _ _ _ _ c.loop-y.invariant.1 c.loop-y.invariant.0 c.loop-y-test.false)
