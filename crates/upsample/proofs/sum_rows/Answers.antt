use native.Mathlib.Omega.{arith}
use mathlib.Core.Path.{◌≡◌, refl, ap, ◌∙◌}
use denote.Param.{number}
use Rattle.bilinear.proofs.CornerLaws.{grid_row}
use Rattle.bilinear.specs.declared.SampledMap.{SampledMap}
use Rattle.upsample_rows.specs.declared.MixedRows.{MixedRows}
use Rattle.upsample_rows.specs.declared.ReducedColumns.{ReducedColumns}
use Rattle.upsample_rows.specs.Rows.{Mixes, reduced_column, way_of}
use Rattle.upsample.specs.Samples.{added_of}
use Rattle.upsample.specs.contracts.sum_rows.{STORE-type}
use Rattle.upsample.proofs.SumLaws.{summing_start, summing_done, summing_more, summing_not}
use Rattle.upsample.proofs.sum_rows.Goals as goal

-- what the rows of a given map and its columns hold
held_of : (r : MixedRows) (d : SampledMap) (k : ReducedColumns) (w : Prim.Native.Nat.ℕ) → r.delta ≡ d → r.columns ≡ k → k.w ≡ w → Mixes d.v.now d.size.w d.size.h w r.held r.north.now r.south.now
held_of r d k w e f g = rw (e, f, g) at r.mixes

pub loop-y-init : goal.loop-y-init
loop-y-init g c = record { done = summing_start _; map = refl; across = refl }

pub returns-then-not-sum_row : goal.returns-then-not-sum_row
returns-then-not-sum_row g c = let a = c.args in let r = a.rows.now in let i = c.loop-y.invariant in record {
  sums =
      summing_not a.map.now a.size.w a.size.h r.delta.v.now r.delta.size.w r.delta.size.h c.loop-y.y (grid_row c.requires.grid c.loop-y-test.true).0
      (held_of c.prepare-dy.new.self r.delta r.columns a.size.w (c.prepare-dy.ensures.map ∙ i.map) (c.prepare-dy.ensures.across ∙ i.across) c.requires.w_is)
      (c.prepare-dy.ensures.value ∙ ap (λ (d : SampledMap). reduced_column a.size.h d.size.h c.loop-y.y) i.map) (c.prepare-dy.ensures.way_is ∙ ap (λ (d : SampledMap). way_of a.size.h d.size.h c.loop-y.y) i.map) c.loop-y-test.true (STORE-type (number g.row.STORE)) i.done c.sum_row.ensures c.if-not-sum_row.true;
  map_is = c.prepare-dy.ensures.map ∙ i.map;
  across = c.prepare-dy.ensures.across ∙ i.across;
}

pub loop-y-preserved : goal.loop-y-preserved
loop-y-preserved g c = let a = c.args in let r = a.rows.now in let i = c.loop-y.invariant in record {
  done =
      summing_more a.map.now a.size.w a.size.h r.delta.v.now r.delta.size.w r.delta.size.h c.loop-y.y (grid_row c.requires.grid c.loop-y-test.true).0
      (held_of c.prepare-dy.new.self r.delta r.columns a.size.w (c.prepare-dy.ensures.map ∙ i.map) (c.prepare-dy.ensures.across ∙ i.across) c.requires.w_is)
      (c.prepare-dy.ensures.value ∙ ap (λ (d : SampledMap). reduced_column a.size.h d.size.h c.loop-y.y) i.map) (c.prepare-dy.ensures.way_is ∙ ap (λ (d : SampledMap). way_of a.size.h d.size.h c.loop-y.y) i.map) c.loop-y-test.true (STORE-type (number g.row.STORE)) i.done c.sum_row.ensures c.if-not-sum_row.false;
  map = c.prepare-dy.ensures.map ∙ i.map;
  across = c.prepare-dy.ensures.across ∙ i.across;
}

pub returns : goal.returns
unfolding added_of
returns g c = let i = c.loop-y.invariant in record {
  sums = summing_done (STORE-type (number g.row.STORE)) _ i.done c.requires.grid.size (omega arith) c.loop-y-test.false;
  map_is = i.map;
  across = i.across;
}
