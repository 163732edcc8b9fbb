use Prim.Native.Nat.{◌*◌}
use mathlib.Core.Path.{◌≡◌}
use denote.Param.{number}
use Rattle.bilinear.specs.Samples.{as_source}
use Rattle.upsample.specs.Samples.{added_at}
use Rattle.upsample.specs.contracts.sum_rows.{STORE-type}
use Rattle.upsample.proofs.SumLaws.{Summing}
use Rattle.upsample.proofs.sum_rows.Given as goal

-- The first y rows are done.
abbrev pub invariant-loop-y : goal.invariant-loop-y
invariant-loop-y g l = let d = l.initial.rows.delta in record {
  done : Summing (STORE-type (number g.row.STORE)) (added_at as_source l.initial.map l.size.w l.size.h d.v.now d.size.w d.size.h) (l.y * l.w) l.initial.map l.map;
  map : l.rows.delta ≡ d;
  across : l.rows.columns ≡ l.initial.rows.columns;
}
