use native.Mathlib.Omega.{arith}
use lib.ListN.{length-take, length-drop}
use Rattle.loops.proofs.FillLaws.{filling_length, filling_start, filling_rows}
use Rattle.resample.specs.Blocks.{downsampled}
use Rattle.downsample.proofs.FirstsLaws.{row_place, averages_more}
use Rattle.downsample.proofs.downsample_into.Goals as goal

pub loop-y-init : goal.loop-y-init
loop-y-init c = filling_start _

pub overflow_mul-from : goal.overflow_mul-from
overflow_mul-from c = omega (arith, row_place c.requires.within c.requires.dst_len c.loop-y-test.true)

pub overflow_add-from : goal.overflow_add-from
overflow_add-from c = omega (arith, row_place c.requires.within c.requires.dst_len c.loop-y-test.true)

pub average_row-requires : goal.average_row-requires
average_row-requires c = record {
  by_lt_h = omega arith;
  row_len = simp (length-take, length-drop) (omega (arith, row_place c.requires.within c.requires.dst_len c.loop-y-test.true, filling_length c.loop-y.invariant));
}

pub loop-y-preserved : goal.loop-y-preserved
loop-y-preserved c = let a = c.args in
    averages_more a.src.now a.size.w a.size.h a.dsize.w a.dsize.h c.loop-y.y c.loop-y.invariant (row_place c.requires.within c.requires.dst_len c.loop-y-test.true).0
    (rw (c.new-columns.ensures.full, c.new-columns.ensures.small, c.new-rows.ensures.full, c.new-rows.ensures.small) at c.average_row.ensures)

pub returns : goal.returns
unfolding downsampled
returns c = filling_rows _ c.loop-y.invariant c.requires.dst_len c.loop-y-test.false
