-- A step leads back to the receiver that it was made of, and has its distance.
use Prim.Native.Nat.{ℕ, suc, ◌+◌, ◌-◌, ◌*◌, ◌/◌, ◌%◌, ◌≤◌, ◌<◌}
use native.Mathlib.Omega.{arith}
use native.Mathlib.Nat.{suc-mul, mul-le-mul}
use native.Mathlib.Decide.{ℕ_discrete}
use mathlib.Core.Path.{◌≡◌, ap, ◌∙◌, subst}
use mathlib.Core.Bool.{cond}
use mathlib.Core.List.{List}
use lib.ListN.{get_or}
use lib.Dec.{eqb, ltb}
use lib.Ieee.{nan}
use borrow.Author.Tests.{lt-ltb, le-ltb, eq-eqb, ne_eqb}
use Rattle.loops.proofs.TableLaws.{get_d_tabulate}
use Rattle.grid.specs.Sides.{cell_of, column_of, row_of}
use Rattle.grid.proofs.SidesLaws.{cell_back}
use Rattle.grid_spacing.specs.Distances.{cell_side}
use Rattle.grid_spacing.specs.declared.Distances.{Distances}
use Rattle.receiver_steps.specs.Distance.{apart}
use Rattle.receiver_steps.specs.Step.{step_of, stepped_to, step_offsets, step_distances, Near}

-- the step s from cell i to cell r, on w columns
pub record Step (w i r s : ℕ) : Type 0 where
  pub north : i ≤ r + w + 1
  pub small : s < 16
  pub past : w + 1 ≤ i + s % 4 + s / 4 * w
  pub back : stepped_to w i s ≡ r

-- and its number
record Placed (w i r number s : ℕ) : Type 0 where
  step : Step w i r s
  is : s ≡ number

-- a step to column nx and row ny by the numbers of columns x to nx and rows y to ny, both one further than it goes
by_places : (w x y nx ny dx : ℕ) → 3 ≤ w → x + dx ≡ nx + 1 → dx ≤ 2 → y ≤ ny + 1 → ny ≤ y + 1 → Placed w (x + y * w) (nx + ny * w) (dx + 4 * (ny + 1 - y)) (step_of w (x + y * w) (nx + ny * w))
unfolding step_of
by_places w x y nx ny dx wide ex lx north south = go (ℕ_discrete ny y) (ℕ_discrete ny (suc y))
  where
    p : ℕ
    p = nx + ny * w + w + 1 - (x + y * w)

    stepped : (s dy : ℕ) → s ≡ dx + 4 * dy → s / 4 * w ≡ dy * w
    stepped s dy e = ap (λ (k : ℕ). k * w) (omega arith)

    go : Dec (ny ≡ y) → Dec (ny ≡ suc y) → Placed w (x + y * w) (nx + ny * w) (dx + 4 * (ny + 1 - y)) (cond (ltb p w) p (cond (ltb p (w + w)) (p + 4 - w) (p + 8 - w - w)))
    go (yes e) b =
        let m : ny * w ≡ y * w = ap (λ (k : ℕ). k * w) e in
        let at : p ≡ dx + w = omega (arith, m) in
        let q : p + 4 - w ≡ dx + 4 = omega arith in
        let t : (p + 4 - w) / 4 * w ≡ 1 * w = stepped (p + 4 - w) 1 q in
        rw (le-ltb p w (omega arith), lt-ltb p (w + w) (omega arith)) (record { step = record { north = omega (arith, m); small = omega arith; past = omega (arith, t); back = omega (arith, t, m) }; is = omega arith })
    go (no e) (yes b) =
        let m : ny * w ≡ y * w + w = ap (λ (k : ℕ). k * w) b ∙ suc-mul y w in
        let at : p ≡ dx + w + w = omega (arith, m) in
        let q : p + 8 - w - w ≡ dx + 8 = omega arith in
        let t : (p + 8 - w - w) / 4 * w ≡ 2 * w = stepped (p + 8 - w - w) 2 q in
        rw (le-ltb p w (omega arith), le-ltb p (w + w) (omega arith)) (record { step = record { north = omega (arith, m); small = omega arith; past = omega (arith, t); back = omega (arith, t, m) }; is = omega arith })
    go (no e) (no b) =
        let up : y ≡ suc ny = omega arith in
        let m : y * w ≡ ny * w + w = ap (λ (k : ℕ). k * w) up ∙ suc-mul ny w in
        let at : p ≡ dx = omega (arith, m) in
        let t : p / 4 * w ≡ 0 * w = stepped p 0 (omega arith) in
        rw (lt-ltb p w (omega arith)) (record { step = record { north = omega (arith, m); small = omega arith; past = omega (arith, t, m); back = omega (arith, t, m) }; is = omega arith })

-- the distance that stands at the number of a step
distance_at : (ds : Distances) (x y nx ny s : ℕ) → s ≡ nx + 1 - x + 4 * (ny + 1 - y) → x ≤ nx + 1 → nx ≤ x + 1 → y ≤ ny + 1 → ny ≤ y + 1
    → get_or (step_distances ds) s nan ≡ cond (eqb x nx) (cond (eqb y ny) cell_side ds.row) (cond (eqb y ny) ds.column ds.diagonal)
distance_at ds x y nx ny s is west east north south = go (ℕ_discrete x nx) (ℕ_discrete y ny) (ℕ_discrete nx (suc x)) (ℕ_discrete ny (suc y))
  where
    at : (k : ℕ) → s ≡ k → get_or (step_distances ds) s nan ≡ get_or (step_distances ds) k nan
    at k e = ap (λ (j : ℕ). get_or (step_distances ds) j nan) e

    go : Dec (x ≡ nx) → Dec (y ≡ ny) → Dec (nx ≡ suc x) → Dec (ny ≡ suc y)
        → get_or (step_distances ds) s nan ≡ cond (eqb x nx) (cond (eqb y ny) cell_side ds.row) (cond (eqb y ny) ds.column ds.diagonal)
    go (yes e) (yes f) a b = rw (eq-eqb x nx e, eq-eqb y ny f) (at 5 (omega arith))
    go (yes e) (no f) a (yes b) = rw (eq-eqb x nx e, ne_eqb y ny f) (at 9 (omega arith))
    go (yes e) (no f) a (no b) = rw (eq-eqb x nx e, ne_eqb y ny f) (at 1 (omega arith))
    go (no e) (yes f) (yes a) b = rw (ne_eqb x nx e, eq-eqb y ny f) (at 6 (omega arith))
    go (no e) (yes f) (no a) b = rw (ne_eqb x nx e, eq-eqb y ny f) (at 4 (omega arith))
    go (no e) (no f) (yes a) (yes b) = rw (ne_eqb x nx e, ne_eqb y ny f) (at 10 (omega arith))
    go (no e) (no f) (yes a) (no b) = rw (ne_eqb x nx e, ne_eqb y ny f) (at 2 (omega arith))
    go (no e) (no f) (no a) (yes b) = rw (ne_eqb x nx e, ne_eqb y ny f) (at 8 (omega arith))
    go (no e) (no f) (no a) (no b) = rw (ne_eqb x nx e, ne_eqb y ny f) (at 0 (omega arith))

module _ {w i r : ℕ} (near : Near w i r) (wide : 3 ≤ w) where
  placed : Placed w i r (column_of w r + 1 - column_of w i + 4 * (row_of w r + 1 - row_of w i)) (step_of w i r)
  placed =
      subst (λ (k : ℕ). Placed w k r (column_of w r + 1 - column_of w i + 4 * (row_of w r + 1 - row_of w i)) (step_of w k r)) (cell_back w i)
      (subst (λ (k : ℕ). Placed w (cell_of w (column_of w i) (row_of w i)) k (column_of w r + 1 - column_of w i + 4 * (row_of w r + 1 - row_of w i)) (step_of w (cell_of w (column_of w i) (row_of w i)) k)) (cell_back w r)
      (by_places w (column_of w i) (row_of w i) (column_of w r) (row_of w r) (column_of w r + 1 - column_of w i) wide (omega (arith, near.west)) (omega (arith, near.east)) near.north near.south))

  pub step_back : Step w i r (step_of w i r)
  step_back = placed.step

  -- it goes two columns and two rows on from the north-west neighbour at most
  pub step_proper : step_of w i r ≤ 10
  step_proper = omega (arith, placed.is, near.east, near.south)

  pub step_distance : (ds : Distances) → get_or (step_distances ds) (step_of w i r) nan ≡ apart ds w i r
  step_distance ds = distance_at ds (column_of w i) (row_of w i) (column_of w r) (row_of w r) (step_of w i r) placed.is near.west near.east near.north near.south

-- ---- the table of offsets
pub rows : (w s : ℕ) → w ≤ 4096 → s < 16 → s / 4 * w ≤ 3 * 4096
rows w s l k = mul-le-mul {n₂ = 3} {m₂ = 4096} (omega arith) l

pub offset_at : (w : ℕ) (offsets : List ℕ) (s : ℕ) → offsets ≡ step_offsets w → s < 16 → get_or offsets s 0 ≡ s % 4 + s / 4 * w
unfolding step_offsets
offset_at w offsets s e l = ap (λ (t : List ℕ). get_or t s 0) e ∙ get_d_tabulate (λ k. k % 4 + k / 4 * w) 16 s 0 l
