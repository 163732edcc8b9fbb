use native.Mathlib.Omega.{arith}
use Rattle.loops.proofs.FillLaws.{filling_none, filling_more, stored}
use Rattle.upsample_rows.proofs.columns.Goals as goal

pub loop-x-init : goal.loop-x-init
loop-x-init c = record { columns = filling_none; ways = filling_none }

pub loop-x-preserved : goal.loop-x-preserved
loop-x-preserved c = let i = c.loop-x.invariant in record {
  columns = filling_more i.columns c.column.ensures (omega arith);
  ways = filling_more i.ways c.way.ensures (omega arith);
}

pub returns : goal.returns
returns c = let i = c.loop-x.invariant in record {
  columns = stored i.columns (omega arith) c.loop-x-test.false;
  ways = stored i.ways (omega arith) c.loop-x-test.false;
}
