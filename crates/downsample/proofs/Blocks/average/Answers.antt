use Prim.Native.Nat.{ℕ, ◌+◌, ◌<◌, ◌≤◌}
use mathlib.Core.Path.{refl}
use native.Mathlib.Omega.{arith}
use Rattle.resample.specs.WorkSize.{Within}
use Rattle.resample.specs.Blocks.{first_in_block, average_of}
use Rattle.resample.proofs.BlockLaws.{run_of, block_part, block_cells, block_float}
use Rattle.downsample.specs.declared.Firsts.{Firsts}
use Rattle.downsample.specs.declared.Blocks.{Blocks}
use Rattle.downsample.proofs.Blocks.average.Goals as goal

within : (b : Blocks) → Within b.columns.side b.rows.side b.columns.reduced b.rows.reduced
within b = record {
  wide = b.columns.side_high;
  high = b.rows.side_high;
  dw_low = b.columns.reduced_low;
  dw_high = b.columns.reduced_high;
  dh_low = b.rows.reduced_low;
  dh_high = b.rows.reduced_high;
}

-- block b runs from its first column to below the next one's
run : (f : Firsts) (b : ℕ) → b < f.reduced → (first_in_block f.side f.reduced b < first_in_block f.side f.reduced (b + 1)) × (first_in_block f.side f.reduced (b + 1) ≤ f.side)
run f b l = run_of f.side f.reduced b _ _ f.reduced_low f.reduced_high l refl refl

pub block_sum-requires : goal.block_sum-requires
block_sum-requires c = let b = c.args.self.now in
    rw (c.first-x.ensures, c.count-nx.ensures, c.first-y.ensures, c.count-ny.ensures)
    (block_part (within b) _ _ _ _ (run b.columns _ c.requires.bx_lt_w) (run b.rows _ c.requires.by_lt_h) _ b.whole)

pub overflow_mul-result : goal.overflow_mul-result
overflow_mul-result c = let b = c.args.self.now in
    rw (c.count-nx.ensures, c.count-ny.ensures) (omega (arith, block_cells (within b) _ _ _ _ (run b.columns _ c.requires.bx_lt_w) (run b.rows _ c.requires.by_lt_h)))

pub int_to_float-result : goal.int_to_float-result
int_to_float-result c = let b = c.args.self.now in
    rw (c.count-nx.ensures, c.count-ny.ensures) (block_float (within b) _ _ _ _ (run b.columns _ c.requires.bx_lt_w) (run b.rows _ c.requires.by_lt_h))

pub returns : goal.returns
unfolding average_of
returns c = rw (c.block_sum.ensures, c.first-x.ensures, c.count-nx.ensures, c.first-y.ensures, c.count-ny.ensures)
