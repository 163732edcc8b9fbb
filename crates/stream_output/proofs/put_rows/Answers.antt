use Rattle.stream_bytes.proofs.PutLaws.{putting_kept, putting_done}
use Rattle.grid.proofs.SidesLaws.{row_end}
use Rattle.stream_output.proofs.OutputLaws.{rows_none, row_room, rows_more}
use native.Mathlib.Omega.{arith}
use Rattle.stream_output.proofs.put_rows.Goals as goal

pub loop-y-init : goal.loop-y-init
loop-y-init c = rows_none _ _

pub overflow_mul-w : goal.overflow_mul-w
overflow_mul-w c = omega (arith, row_room c.args.size.w c.args.size.h _ c.loop-y-test.true _ c.requires.h_in_bounds)

pub overflow_add-w : goal.overflow_add-w
overflow_add-w c = omega (arith, row_room c.args.size.w c.args.size.h _ c.loop-y-test.true _ c.requires.h_in_bounds)

pub overflow_mul-y : goal.overflow_mul-y
overflow_mul-y c = omega (arith, row_room c.args.size.w c.args.size.h _ c.loop-y-test.true _ c.requires.h_in_bounds)

pub overflow_mul-y-in-loop-y : goal.overflow_mul-y-in-loop-y
overflow_mul-y-in-loop-y c = omega (arith, row_end c.args.size.w c.args.size.h _ c.loop-y-test.true, c.requires.map_len)

pub put_row-requires : goal.put_row-requires
put_row-requires c = record { w_in_bounds = omega (arith, row_room c.args.size.w c.args.size.h _ c.loop-y-test.true _ c.requires.h_in_bounds, putting_kept c.loop-y.invariant); w_in_bounds_2 = omega (arith, row_end c.args.size.w c.args.size.h _ c.loop-y-test.true, c.requires.map_len) }

pub loop-y-smaller : goal.loop-y-smaller
loop-y-smaller c = omega (arith, c.loop-y-test.true)

pub loop-y-preserved : goal.loop-y-preserved
loop-y-preserved c = rows_more _ _ c.loop-y.invariant c.loop-y-test.true c.put_row.ensures

pub shape_of-out : goal.shape_of-out
shape_of-out c = putting_kept c.loop-y.invariant

pub returns : goal.returns
returns c = putting_done c.loop-y.invariant c.loop-y-test.false
