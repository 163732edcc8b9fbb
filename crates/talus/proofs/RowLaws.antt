-- Cells of a row, and the loops over them.
use Prim.Native.Nat.{ℕ, ◌+◌, ◌*◌, ◌≤◌, ◌<◌}
use mathlib.Core.Path.{◌≡◌, refl, ◌∙◌}
use mathlib.Core.List.{List}
use native.Mathlib.Omega.{arith}
use lib.ListN.{length}
use lib.Ieee.{Float}
use Rattle.loops.specs.Loops.{turns}
use Rattle.loops.proofs.LoopLaws.{Turning, turning_none, turning_more, turning_done}
use Rattle.grid.proofs.SidesLaws.{cell_lt}
use Rattle.talus.specs.Places.{CellAt, InRow}

-- column x + i of a row
pub row_cell_at : {w h cells y x n : ℕ} (i : ℕ) → InRow w h cells y x n → i < n → CellAt w h cells (x + i) y (x + i + y * w)
row_cell_at i a l =
    record {
      place = record { column = omega arith; row = a.row; wide = a.wide; high = a.high };
      cells = a.size;
      cell = refl;
    }

pub row_cell_below : {w h cells y x n : ℕ} (i : ℕ) → InRow w h cells y x n → i < n → x + i + y * w < cells
row_cell_below {w} {h} {cells} {y} {x} i a l = omega (arith, cell_lt w (x + i) y (omega arith) h a.row)

-- the heights after i of n cells, as many as before
pub record Passing (f : ℕ → List Float → List Float) (n i : ℕ) (out s : List Float) : Type 0 where
  pub long : length s ≡ length out
  pub turning : Turning f n i out s

module _ {f : ℕ → List Float → List Float} {n : ℕ} {out : List Float} where
  pub passing_none : Passing f n 0 out out
  passing_none = record { long = refl; turning = turning_none }

  pub passing_more : {i : ℕ} {s r : List Float} → Passing f n i out s → i < n → length r ≡ length s → r ≡ f i s → Passing f n (i + 1) out r
  passing_more p l k e = record { long = k ∙ p.long; turning = turning_more p.turning l e }

  pub passing_done : {i : ℕ} {s : List Float} → Passing f n i out s → n ≤ i → s ≡ turns n f out
  passing_done p l = turning_done p.turning l
