-- The blocks of a side are the source's. With s the side and r the reduced side, block b starts at the least x with b × s ≤ x × r.
use Prim.Native.Nat.{ℕ, ◌+◌, ◌-◌, ◌*◌, ◌/◌, ◌^◌, ◌≤◌, ◌<◌}
use mathlib.Core.Path.{◌≡◌, sym, subst}
use native.Mathlib.Nat.{div-lt_iff_lt-mul, le-div_iff_mul-le, div-eq_of_lt-le, mul_comm, lt-div-mul-add, mul-le-mul, mul-le-mul_right}
use native.Mathlib.Omega.{arith}
use lib.Dec.{T}
use lib.IntN.{pos}
use lib.Ieee.{binary32, in_float}
use Rattle.resample.specs.WorkSize.{Within}
use Rattle.resample.specs.Places.{Part}
use Rattle.floats.proofs.WholeLaws.{float_in}
use Rattle.resample.specs.Blocks.{first_in_block, BlocksOf, SourceBlocks}

module _ (s r : ℕ) (low : 1 ≤ r) where
  -- at or past the first column of block b
  past : (x b : ℕ) → first_in_block s r b ≤ x → b * s ≤ x * r
  past x b h =
      let q : first_in_block s r b < x + 1 = omega arith in
      let p : b * s + (r - 1) < (x + 1) * r = (div-lt_iff_lt-mul low).0 q in
      omega arith

  reaches : (x b : ℕ) → b * s ≤ x * r → first_in_block s r b ≤ x
  reaches x b h =
      let p : b * s + (r - 1) < (x + 1) * r = omega arith in
      let q : first_in_block s r b < x + 1 = (div-lt_iff_lt-mul low).1 p in
      omega arith

  -- before it
  short : (x b : ℕ) → x < first_in_block s r b → x * r < b * s
  short x b h =
      let q : x + 1 ≤ first_in_block s r b = omega arith in
      let p : (x + 1) * r ≤ b * s + (r - 1) = (le-div_iff_mul-le low).0 q in
      omega arith

  stops : (x b : ℕ) → x * r < b * s → x < first_in_block s r b
  stops x b h =
      let p : (x + 1) * r ≤ b * s + (r - 1) = omega arith in
      let q : x + 1 ≤ first_in_block s r b = (le-div_iff_mul-le low).1 p in
      omega arith

  blocks : r ≤ s → BlocksOf s r
  blocks high = record {
    sent = λ x b e. (
      reaches x b (subst (λ (k : ℕ). k * s ≤ x * r) e ((le-div_iff_mul-le (omega arith)).0 (omega arith))),
      stops x (b + 1) (subst (λ (k : ℕ). x * r < (k + 1) * s) e (let l : x * r < x * r / s * s + s = lt-div-mul-add (omega arith) in omega arith)),
    );
    taken = λ x b l u. div-eq_of_lt-le s (past x b l) (short x (b + 1) u);
    nonempty = λ b. stops (first_in_block s r b) (b + 1) (next b);
    begins = let z : first_in_block s r 0 ≤ 0 = reaches 0 0 (omega arith) in omega arith;
    ends = all;
  }
    where
      next : (b : ℕ) → first_in_block s r b * r < (b + 1) * s
      next b =
          let l : first_in_block s r b * r ≤ b * s + (r - 1) = (le-div_iff_mul-le low).0 (omega arith) in
          omega arith

      all : first_in_block s r r ≡ s
      all =
          let a : first_in_block s r r ≤ s = reaches s r (omega (arith, mul_comm r s)) in
          let b : s ≤ first_in_block s r r = (le-div_iff_mul-le low).1 (omega (arith, mul_comm r s)) in
          omega arith

pub source_blocks : SourceBlocks
source_blocks = blocks

-- block b from its first column x up to e, the next one's
pub run_of : (s r b x e : ℕ) → 1 ≤ r → r ≤ s → b < r → x ≡ first_in_block s r b → e ≡ first_in_block s r (b + 1) → (x < e) × (e ≤ s)
run_of s r b x e low high l p q =
    let m : (b + 1) * s ≤ r * s = mul-le-mul_right s (omega arith) in
    omega (arith, (source_blocks s r low high).nonempty b, reaches s r low s (b + 1) (omega (arith, mul_comm r s)))

module _ {w h dw dh : ℕ} (in_grid : Within w h dw dh) (x e y f : ℕ) (across : (x < e) × (e ≤ w)) (along : (y < f) × (f ≤ h)) where
  -- a block is a part of the source
  pub block_part : (len : ℕ) → len ≡ w * h → Part len w x (e - x) y (f - y)
  block_part len size = record {
    wide = in_grid.wide;
    right = omega arith;
    high = omega (arith, in_grid.high);
    bottom =
        let a : y + (f - y) ≡ f = omega arith in
        let b : f * w ≤ h * w = mul-le-mul_right w along.1 in
        subst (λ (k : ℕ). k * w ≤ len) (sym a) (omega (arith, mul_comm w h));
  }

  pub block_cells : (e - x) * (f - y) ≤ 2 ^ 24
  block_cells =
      let a : e - x ≤ 4096 = omega (arith, in_grid.wide) in
      let b : f - y ≤ 4096 = omega (arith, in_grid.high) in
      mul-le-mul a b

  pub block_float : T (in_float binary32 (pos ((e - x) * (f - y))))
  block_float = float_in _ block_cells
