-- The first columns of all blocks read from their array, and the averages row by row.
use Prim.Native.Nat.{ℕ, ◌+◌, ◌-◌, ◌*◌, ◌^◌, ◌≤◌, ◌<◌}
use mathlib.Core.Path.{◌≡◌}
use mathlib.Core.List.{List}
use native.Mathlib.Omega.{arith}
use lib.ListN.{length, get_or, replicate}
use lib.Ieee.{Float}
use borrow.Rule.Slice.PartMut.{put_mid}
use Rattle.loops.proofs.TableLaws.{filled_read}
use Rattle.loops.proofs.FillLaws.{Filling, stored}
use Rattle.grid.proofs.SidesLaws.{row_few}
use Rattle.resample.specs.WorkSize.{Within}
use Rattle.resample.specs.Places.{Block}
use Rattle.resample.specs.Blocks.{first_in_block, average_of}
use Rattle.resample.proofs.BlockLaws.{run_of}
use Rattle.resample.proofs.FillLaws.{average_at}
use Rattle.loops.proofs.RowFillLaws.{stored_row_at}
use Rattle.downsample.specs.Firsts.{firsts_of, averages_of}

module _ (side reduced : ℕ) where
  pub firsts_done : {i : ℕ} {fs : List ℕ} → Filling (first_in_block side reduced) i (replicate 4097 0) fs → i ≤ reduced + 1 → reduced + 1 ≤ i → fs ≡ firsts_of side reduced
  unfolding firsts_of
  firsts_done p a b = stored p a b

  pub first_read : {fs : List ℕ} (b : ℕ) → b ≤ reduced → fs ≡ firsts_of side reduced → get_or fs b 0 ≡ first_in_block side reduced b
  unfolding firsts_of
  first_read b l e = filled_read (first_in_block side reduced) (reduced + 1) (replicate 4097 0) e b 0 (omega arith)

-- the blocks of the columns and of the rows, and row y of the averages, which lies within them
module _ {w h dw dh : ℕ} (g : Within w h dw dh) where
  pub columns_in : Block w dw dw
  columns_in = record { side_high = g.wide; reduced_low = g.dw_low; reduced_high = omega (arith, g.wide, g.dw_high); end = omega arith }

  pub rows_in : Block h dh dh
  rows_in = record { side_high = g.high; reduced_low = g.dh_low; reduced_high = omega (arith, g.high, g.dh_high); end = omega arith }

  pub row_place : {len y : ℕ} → len ≡ dw * dh → y < dh → (y * dw + dw ≤ len) × (len ≤ 2 ^ 24)
  row_place e l = omega (arith, row_few columns_in.reduced_high rows_in.reduced_high l)

-- block b runs from one entry to the next
pub block_run : (s r b : ℕ) {fs : List ℕ} → fs ≡ firsts_of s r → 1 ≤ r → r ≤ s → b < r → (get_or fs b 0 < get_or fs (b + 1) 0) × (get_or fs (b + 1) 0 ≤ s)
block_run s r b e low high l = run_of s r b _ _ low high l (first_read s r b (omega arith) e) (first_read s r (b + 1) (omega arith) e)

-- one row more of the averages
pub averages_more : (src : List Float) (w h dw dh y : ℕ) {old now row : List Float} → Filling (average_at src w h dw dh) (y * dw) old now → y * dw + dw ≤ length old
    → row ≡ averages_of src w h dw dh y → Filling (average_at src w h dw dh) ((y + 1) * dw) old (put_mid (y * dw) (y * dw + dw - y * dw) now row)
unfolding averages_of
averages_more src w h dw dh y {old} {now} {row} f inside e =
    stored_row_at (λ a b. average_of src w h dw dh a b) dw y f inside e
