-- One value more of a row's sum, one row more of a block's, at the code's i + 1.
use Prim.Native.Nat.{ℕ, ◌+◌, ◌*◌, ◌^◌, ◌≤◌, ◌<◌}
use mathlib.Core.Path.{◌≡◌, refl}
use mathlib.Core.List.{List}
use native.Mathlib.Nat.{mul-le-mul, mul-le-mul_right}
use native.Mathlib.Omega.{arith}
use native.Mathlib.Numerals.{add-one}
use lib.ListN.{get_or}
use lib.Ieee.{Float, nan, binary32, of_bits, add}
use Rattle.resample.specs.Places.{Part}
use Rattle.resample.specs.Blocks.{row_sum, block_sum}

pub row_none : (src : List Float) (at : ℕ) (acc : Float) → acc ≡ row_sum src at 0 acc
unfolding row_sum
row_none src at acc = refl

pub row_more : (src : List Float) (at i : ℕ) (acc sum : Float) → sum ≡ row_sum src at i acc → add binary32 sum (get_or src (at + i) nan) ≡ row_sum src at (i + 1) acc
unfolding row_sum
row_more src at i acc sum e = rw (e, add-one)

pub block_none : (src : List Float) (w x n y : ℕ) → of_bits binary32 0 ≡ block_sum src w x n y 0
unfolding block_sum
block_none src w x n y = refl

pub block_more : (src : List Float) (w x n y i : ℕ) (sum next : Float) → sum ≡ block_sum src w x n y i → next ≡ row_sum src (x + (y + i) * w) n sum → next ≡ block_sum src w x n y (i + 1)
unfolding block_sum
block_more src w x n y i sum next e f = rw (f, e, add-one)

-- a row of a block lies within the source, and its first index is small
pub part_row : {len w x n y rows i : ℕ} → Part len w x n y rows → i < rows → (x + (y + i) * w + n ≤ len) × (x + (y + i) * w ≤ 2 ^ 25)
part_row {len} {w} {x} {n} {y} {rows} {i} p l =
    let a : (y + i + 1) * w ≤ (y + rows) * w = mul-le-mul_right w (omega arith) in
    let b : (y + i) * w ≤ 4096 * 4096 = mul-le-mul {n₂ = 4096} {m₂ = 4096} (omega arith) p.wide in
    omega (arith, p.right, p.wide, p.bottom)
