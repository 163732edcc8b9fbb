use Prim.Native.Nat.{ℕ}
use mathlib.Core.Path.{ap, ◌∙◌}
use native.Mathlib.Omega.{arith}
use lib.ListN.{get_or}
use lib.Ieee.{Float, nan, binary32, add}
use lib.Ieee.Scale.{finite}
use Rattle.loops.specs.Loops.{tabulate}
use Rattle.loops.proofs.LoopLaws.{at_end}
use Rattle.grid.specs.Heights.{all_finite}
use Rattle.upsample.specs.Samples.{summed_row}
use Rattle.grid.proofs.HeightsLaws.{all_none, all_more}
use Rattle.upsample.proofs.RowLaws.{sum_at}
use Rattle.upsample.proofs.row_finite.Goals as goal

pub loop-x-init : goal.loop-x-init
loop-x-init c = (all_none _, omega arith)

pub offset_bounds-north-x : goal.offset_bounds-north-x
offset_bounds-north-x c = omega (arith, c.loop-x-test.true, c.requires)

pub bounds-north-x : goal.bounds-north-x
bounds-north-x c = omega (arith, c.loop-x-test.true, c.requires)

pub offset_bounds-south-x : goal.offset_bounds-south-x
offset_bounds-south-x c = omega (arith, c.loop-x-test.true, c.requires)

pub bounds-south-x : goal.bounds-south-x
bounds-south-x c = omega (arith, c.loop-x-test.true, c.requires)

pub loop-x-smaller : goal.loop-x-smaller
loop-x-smaller c = omega (arith, c.loop-x-test.true)

pub loop-x-preserved : goal.loop-x-preserved
loop-x-preserved c = let a = c.args in
    (all_more (sum_at a.row.now a.north.now a.south.now a.dy) c.loop-x.x c.loop-x.invariant.0 (c.is_finite-good.ensures ∙ ap (λ (z : Float). finite (add binary32 (get_or a.row.now c.loop-x.x nan) z)) c.mixed.ensures), omega (arith, c.loop-x-test.true))

pub returns : goal.returns
unfolding summed_row
returns c = let a = c.args in
    at_end (λ (n : ℕ). all_finite (tabulate n (sum_at a.row.now a.north.now a.south.now a.dy))) c.loop-x.invariant.0 c.loop-x.invariant.1 c.loop-x-test.false
