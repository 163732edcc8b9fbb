-- A row of a map as its first cell, its inner cells and the rest.
use Prim.Native.Nat.{ℕ, ◌+◌, ◌*◌, ◌≤◌, ◌<◌}
use mathlib.Core.Path.{◌≡◌, subst}
use native.Mathlib.Omega.{arith}
use Rattle.talus.specs.Places.{InRow}
use Rattle.grid_inner.specs.Inner.{Inner, InnerRun, inner_of}
use Rattle.grid.specs.declared.map.Map.{Map}
use Rattle.grid_inner.proofs.InnerLaws.{inner_most, row_inner, run_part}
use Rattle.talus_directions.specs.Parts.{InnerRow}
use Rattle.talus_directions.proofs.PassLaws.{inner_is}

module _ (w h y n : ℕ) (e : n ≡ inner_of w h y) where
  pub inner_row : {cells : ℕ} → 1 ≤ w → InRow w h cells y 0 w → InnerRow w h cells y 1 n
  inner_row some r =
      record {
        inner = row_inner w h y n e r.row r.wide r.high;
        row = record { columns = inner_most w h y n e some; row = r.row; wide = r.wide; high = r.high; size = r.size };
      }

-- some of them
pub inner_part : {w h cells y x n : ℕ} (i b : ℕ) → InnerRow w h cells y x n → i + b ≤ n → InnerRow w h cells y (x + i) b
inner_part {w} {h} {cells} {y} {x} {n} i b a l =
    record {
      inner = let e : x + y * w + i ≡ x + i + y * w = omega arith in subst (λ (c : ℕ). InnerRun w h c b) e (run_part i b a.inner l);
      row = record { columns = omega (arith, a.row.columns); row = a.row.row; wide = a.row.wide; high = a.row.high; size = a.row.size };
    }

-- cell i of them, by its own sides and number
pub inner_cell_is : {z a : Map} {cells y x n i c : ℕ} → InnerRow a.size.w a.size.h cells y x n → i < n → z ≡ a → c ≡ x + i + y * a.size.w → Inner z.size.w z.size.h c
inner_cell_is r l e f = rw e (inner_is r l f)
