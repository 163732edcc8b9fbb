-- `beside` in signed arithmetic of 64 bits: what the machine reads back of each sum and product is the number itself.
use Prim.Native.Nat.{ℕ, zero, suc, ◌+◌, ◌-◌, ◌*◌, ◌^◌, ◌≤◌, ◌<◌}
use mathlib.Core.Path.{◌≡◌, ap, ◌∙◌}
use native.Mathlib.Omega.{arith}
use lib.Dec.{T}
use lib.IntN.{ℤ, pos, negsuc, nat_abs, neg_ℤ, ◌+ℤ◌, ◌*ℤ◌}
use lib.Signed.{non_neg}
use borrow.Author.Tests.{le-ltb}
use mir.Syntax.{w32, w64}
use mir.Val.{Fits, SFits, of_z, to_z}
use mir.ValLaws.{to_z-of_z, to_z_pos}
use Rattle.grid.specs.Directions.{Step, stepped_at}
use Rattle.grid.proofs.SidesLaws.{cells_bound}
use Rattle.grid.proofs.ShiftedLaws.{read_small}
use Rattle.grid_inner.specs.Inner.{Inner}
use Rattle.grid_inner.proofs.InnerLaws.{ahead, inner_behind, step_cell, step_from}

-- c moved by a step of at most one
column_moved : (z : ℤ) (c : ℕ) → nat_abs z ≤ 1 → 1 ≤ c → pos c +ℤ z ≡ pos (c + ahead z - 1)
column_moved (pos zero) c s l = ap pos (omega arith)
column_moved (pos (suc zero)) c s l = ap pos (omega arith)
column_moved (pos (suc (suc k))) c s l = absurd (omega arith)
column_moved (negsuc zero) c s l = rw (le-ltb c 1 l) (ap pos (omega arith))
column_moved (negsuc (suc k)) c s l = absurd (omega arith)

ahead_most : (z : ℤ) → nat_abs z ≤ 1 → ahead z ≤ 2
ahead_most (pos zero) s = omega arith
ahead_most (pos (suc zero)) s = omega arith
ahead_most (pos (suc (suc k))) s = absurd (omega arith)
ahead_most (negsuc zero) s = omega arith
ahead_most (negsuc (suc k)) s = absurd (omega arith)

-- a row back
back : (w : ℕ) → 1 ≤ w → negsuc zero *ℤ pos w ≡ negsuc (w - 1)
back w l =
    let e : 1 * w ≡ suc (w - 1) = omega arith in
    ap (λ (k : ℕ). neg_ℤ (pos k)) e

-- a moved by as many rows of w cells
rows_moved : (z : ℤ) (w a : ℕ) → nat_abs z ≤ 1 → 1 ≤ w → w ≤ a → pos a +ℤ (z *ℤ pos w) ≡ pos (a + ahead z * w - w)
rows_moved (pos zero) w a s l m = ap pos (omega arith)
rows_moved (pos (suc zero)) w a s l m = ap pos (omega arith)
rows_moved (pos (suc (suc k))) w a s l m = absurd (omega arith)
rows_moved (negsuc zero) w a s l m = rw (back w l, le-ltb a (suc (w - 1)) (omega arith)) (ap pos (omega arith))
rows_moved (negsuc (suc k)) w a s l m = absurd (omega arith)

rows_fit : (z : ℤ) (w : ℕ) → nat_abs z ≤ 1 → 1 ≤ w → w ≤ 4096 → SFits w64 (z *ℤ pos w)
rows_fit (pos zero) w s l m = record { sfits = omega arith }
rows_fit (pos (suc zero)) w s l m = record { sfits = omega arith }
rows_fit (pos (suc (suc k))) w s l m = absurd (omega arith)
rows_fit (negsuc zero) w s l m = rw (back w l) (record { sfits = omega arith })
rows_fit (negsuc (suc k)) w s l m = absurd (omega arith)

step_fits : (z : ℤ) → nat_abs z ≤ 1 → SFits w64 z
step_fits (pos k) s = record { sfits = omega arith }
step_fits (negsuc k) s = record { sfits = omega arith }

-- a step as 64 bits have it
abbrev wide_of : ℤ → ℤ
wide_of z = to_z w64 (of_z w64 (to_z w32 (of_z w32 z)))

wide_is : (z : ℤ) → nat_abs z ≤ 1 → wide_of z ≡ z
wide_is z s = ap (λ (k : ℤ). to_z w64 (of_z w64 k)) (read_small z s) ∙ to_z-of_z w64 z (step_fits z s)

pub read_fits : (z : ℤ) → nat_abs z ≤ 1 → SFits w64 (to_z w32 (of_z w32 z))
read_fits z s = rw (read_small z s) (step_fits z s)

-- the three results as the machine works them out
abbrev column_of64 : ℕ → ℤ → ℤ
column_of64 c dx = to_z w64 c +ℤ wide_of dx

abbrev rows_of64 : ℕ → ℤ → ℤ
rows_of64 w dy = wide_of dy *ℤ to_z w64 w

abbrev sum_of64 : ℕ → ℕ → ℤ → ℤ → ℤ
sum_of64 w c dx dy = to_z w64 (of_z w64 (column_of64 c dx)) +ℤ to_z w64 (of_z w64 (rows_of64 w dy))

module _ (w h c : ℕ) (dx dy : ℤ) (s : Step dx dy) (a : Inner w h c) where
  least : 1 ≤ w
  least = omega (arith, a.west, a.east)

  bound : c < 2 ^ 25
  bound = omega (arith, step_cell w h c (pos 0) (pos 0) (record { columns = omega arith; rows = omega arith }) a, step_from w h c (pos 0) (pos 0) (record { columns = omega arith; rows = omega arith }) a, cells_bound w h a.wide a.high)

  pub cell_casts : SFits w64 (pos c)
  cell_casts = record { sfits = omega (arith, bound) }

  pub width_casts : SFits w64 (pos w)
  width_casts = record { sfits = omega (arith, a.wide) }

  column_is : column_of64 c dx ≡ pos (c + ahead dx - 1)
  column_is = rw (to_z_pos w64 c (omega (arith, bound)), wide_is dx s.columns) (column_moved dx c s.columns (omega (arith, inner_behind a)))

  rows_is : rows_of64 w dy ≡ dy *ℤ pos w
  rows_is = rw (to_z_pos w64 w (omega (arith, a.wide)), wide_is dy s.rows)

  pub column_fits : SFits w64 (column_of64 c dx)
  column_fits = rw column_is (record { sfits = omega (arith, bound, ahead_most dx s.columns) })

  pub rows_fits : SFits w64 (rows_of64 w dy)
  rows_fits = rw rows_is (rows_fit dy w s.rows least a.wide)

  sum_is : sum_of64 w c dx dy ≡ pos (stepped_at w h c dx dy)
  sum_is =
      rw (to_z-of_z w64 (column_of64 c dx) column_fits, column_is, to_z-of_z w64 (rows_of64 w dy) rows_fits, rows_is)
      (rows_moved dy w (c + ahead dx - 1) s.rows least (omega (arith, inner_behind a))
      ∙ ap pos (omega (arith, step_from w h c dx dy s a, inner_behind a)))

  pub sum_fits : SFits w64 (sum_of64 w c dx dy)
  sum_fits = rw sum_is (record { sfits = omega (arith, step_cell w h c dx dy s a, cells_bound w h a.wide a.high) })

  read_is : to_z w64 (of_z w64 (sum_of64 w c dx dy)) ≡ pos (stepped_at w h c dx dy)
  read_is = to_z-of_z w64 (sum_of64 w c dx dy) sum_fits ∙ sum_is

  pub sum_casts : T (non_neg (to_z w64 (of_z w64 (sum_of64 w c dx dy)))) × Fits w64 (nat_abs (to_z w64 (of_z w64 (sum_of64 w c dx dy))))
  sum_casts = rw read_is (tt, record { fits = omega (arith, step_cell w h c dx dy s a, cells_bound w h a.wide a.high) })

  pub sum_leads : nat_abs (to_z w64 (of_z w64 (sum_of64 w c dx dy))) ≡ stepped_at w h c dx dy
  sum_leads = ap nat_abs read_is
