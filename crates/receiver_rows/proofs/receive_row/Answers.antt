use Prim.Native.Nat.{◌+◌, ◌≤◌}
use native.Mathlib.Omega.{arith}
use Rattle.grid_inner.proofs.InnerLaws.{inner_most, row_inner}
use Rattle.receiver_rows.proofs.DiscovererLaws.{near_after}
use Rattle.receiver_rows.proofs.RowLaws.{row_two, row_whole}
use Rattle.receiver_rows.proofs.receive_row.Goals as goal
use Rattle.receiver_rows.proofs.receive_row.Goals.{After-inner_cells-n}

most : (c : After-inner_cells-n) → 1 + c.inner_cells-n.result ≤ c.args.spill.now.size.w
most c = inner_most _ _ _ _ c.inner_cells-n.ensures c.requires.in_range.columns

pub receive_inner_cells-requires-clause-inner_run : goal.receive_inner_cells-requires-clause-inner_run
receive_inner_cells-requires-clause-inner_run c = row_inner _ _ _ _ c.inner_cells-n.ensures c.requires.y_lt_h c.requires.in_range.wide c.requires.in_range.high

pub receive_inner_cells-requires-clause-near_discoverers : goal.receive_inner_cells-requires-clause-near_discoverers
receive_inner_cells-requires-clause-near_discoverers c = near_after _ _ _ _ _ _ c.requires.near_discoverers c.receive_cells.ensures (omega arith) (omega arith) (omega (arith, most (goal.at.receive_inner_cells-requires-clause-near_discoverers c).After-inner_cells-n))

pub overflow_add-n : goal.overflow_add-n
overflow_add-n c = omega (arith, most (goal.at.overflow_add-n c).After-inner_cells-n)

pub overflow_add-n-2 : goal.overflow_add-n-2
overflow_add-n-2 c = omega (arith, most (goal.at.overflow_add-n-2 c).After-inner_cells-n)

pub overflow_sub-w : goal.overflow_sub-w
overflow_sub-w c = most (goal.at.overflow_sub-w c).After-inner_cells-n

pub receive_cells-requires-2-clause-n_bound : goal.receive_cells-requires-2-clause-n_bound
receive_cells-requires-2-clause-n_bound c = omega (arith, most (goal.at.receive_cells-requires-2-clause-n_bound c).After-inner_cells-n)

pub returns : goal.returns
returns c =
    let few = most (goal.at.returns c).After-inner_cells-n in
    row_whole _ _ _ _ c.args.y c.inner_cells-n.result few (row_two _ _ _ _ c.args.y c.inner_cells-n.result few c.receive_cells.ensures c.receive_inner_cells.ensures) c.receive_cells-2.ensures
