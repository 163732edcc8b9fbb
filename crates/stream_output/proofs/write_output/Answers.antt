use Rattle.stream_output.proofs.WriterLaws.{end_short, end_alone, whole_sides, whole_cells, whole_room, whole_output}
use Rattle.stream_rows.proofs.RowLaws.{rows_fit}
use Rattle.grid.proofs.SidesLaws.{good_sides, cells_bound}
use mathlib.Core.Path.{sym, ◌∙◌}
use native.Mathlib.Omega.{arith}
use Rattle.stream_output.proofs.write_output.Goals as goal

pub returns-then-out-lt16 : goal.returns-then-out-lt16
returns-then-out-lt16 c = end_short c.args.size.w c.args.size.h c.args.map.now c.args.r c.args.out.now c.short_number-number.ensures c.for_input.ensures c.if-for_input.true c.if-out-lt16.true

pub returns-then-for_input : goal.returns-then-for_input
returns-then-for_input c = end_alone c.args.size.w c.args.size.h c.args.map.now c.args.r c.args.out.now c.short_number-number.ensures c.for_input.ensures c.if-for_input.true c.if-out-lt16.false c.put_end.ensures

pub returns-then-bad_sides : goal.returns-then-bad_sides
returns-then-bad_sides c = whole_sides c.args.size.w c.args.size.h c.args.map.now c.args.r c.args.out.now c.short_number-number.ensures c.for_input.ensures c.if-for_input.false c.bad_sides.ensures c.if-bad_sides.true

pub overflow_mul-size : goal.overflow_mul-size
overflow_mul-size c = omega (arith, cells_bound _ _ (good_sides c.args.size.w c.args.size.h (sym c.bad_sides.ensures ∙ c.if-bad_sides.false)).wide (good_sides c.args.size.w c.args.size.h (sym c.bad_sides.ensures ∙ c.if-bad_sides.false)).high)

pub returns-then-map-size : goal.returns-then-map-size
returns-then-map-size c = whole_cells c.args.size.w c.args.size.h c.args.map.now c.args.r c.args.out.now c.short_number-number.ensures c.for_input.ensures c.if-for_input.false c.bad_sides.ensures c.if-bad_sides.false c.if-map-size.true

pub rows_length-rows-requires : goal.rows_length-rows-requires
rows_length-rows-requires c = good_sides _ _ (sym c.bad_sides.ensures ∙ c.if-bad_sides.false)

pub overflow_add-rows : goal.overflow_add-rows
overflow_add-rows c = omega (arith, c.rows_length-rows.ensures, rows_fit _ _ (good_sides c.args.size.w c.args.size.h (sym c.bad_sides.ensures ∙ c.if-bad_sides.false)))

pub returns-then-out-rows : goal.returns-then-out-rows
returns-then-out-rows c = whole_room c.args.size.w c.args.size.h c.args.map.now c.args.r c.args.out.now c.short_number-number.ensures c.for_input.ensures c.if-for_input.false c.bad_sides.ensures c.if-bad_sides.false c.if-map-size.false c.rows_length-rows.ensures c.if-out-rows.true

pub put_grid-requires : goal.put_grid-requires
put_grid-requires c = record { in_range = good_sides _ _ (sym c.bad_sides.ensures ∙ c.if-bad_sides.false); in_bounds = omega (arith, c.if-out-rows.false) }

pub returns : goal.returns
returns c = whole_output c.args.size.w c.args.size.h c.args.map.now c.args.r c.args.out.now c.short_number-number.ensures c.for_input.ensures c.if-for_input.false c.bad_sides.ensures c.if-bad_sides.false c.if-map-size.false c.rows_length-rows.ensures c.if-out-rows.false c.put_grid.ensures c.put_rows.ensures c.put_end-2.ensures
