-- Inner cells: their neighbours are all in the grid.
use Prim.Native.Nat.{ℕ, zero, suc, ◌+◌, ◌-◌, ◌*◌, ◌≤◌, ◌<◌}
use mathlib.Core.Path.{◌≡◌, refl, sym, ap, ◌∙◌, subst}
use mathlib.Core.Bool.{Bool, true, false, cond, ◌||◌, not, true≢false}
use native.Mathlib.Nat.{mul-le-mul, le_refl}
use native.Mathlib.Omega.{arith}
use lib.Dec.{eqb, ltb}
use lib.IntN.{ℤ, pos, negsuc, nat_abs}
use borrow.Author.Tests.{ltb-false, eqb-false}
use Rattle.grid.specs.Sides.{cell_of, column_of, row_of}
use Rattle.grid.specs.Base.{border_at}
use Rattle.grid.specs.Directions.{Step, shifted_of, stepped_at, neighbour_at}
use Rattle.grid.proofs.SidesLaws.{cell_lt, cell_back, column_cell, row_cell, column_lt, row_lt}
use Rattle.grid.proofs.BaseLaws.{border_ends}
use Rattle.grid.proofs.NeighbourLaws.{step_x, step_y, by_step, within, shift_ahead, shift_behind, step_of}
use Rattle.grid_inner.specs.Inner.{Inner, InnerRun, inner_of}

-- one more than a step of at most one: 0, 1 or 2
abbrev pub ahead : ℤ → ℕ
ahead z = shifted_of 1 z 3

-- a step of at most one from an inner place stays inside
near : (z : ℤ) (x side : ℕ) → nat_abs z ≤ 1 → 1 ≤ x → x + 1 < side → (shifted_of x z side + 1 ≡ ahead z + x) × (shifted_of x z side < side)
near (pos zero) x side s lo hi = let e = shift_ahead x 0 side (omega arith) in omega (arith, e)
near (pos (suc zero)) x side s lo hi = let e = shift_ahead x 1 side (omega arith) in omega (arith, e)
near (pos (suc (suc k))) x side s lo hi = absurd (omega arith)
near (negsuc zero) x side s lo hi = let e = shift_behind x 0 side lo in omega (arith, e)
near (negsuc (suc k)) x side s lo hi = absurd (omega arith)

step_sum : (w x y nx ny ox oy : ℕ) → nx + 1 ≡ ox + x → ny + 1 ≡ oy + y → (nx + ny * w) + (w + 1) ≡ (x + y * w) + (ox + oy * w)
step_sum w x y nx ny ox oy a b = omega (arith, ap (λ (z : ℕ). z * w) b)

-- a step from an inner cell leads to a cell, so many columns and rows behind the one in the north-west
module _ (w h c : ℕ) (dx dy : ℤ) (s : Step dx dy) (a : Inner w h c) where
  step_at : (stepped_at w h c dx dy < w * h) × (stepped_at w h c dx dy + (w + 1) ≡ cell_of w (column_of w c) (row_of w c) + (ahead dx + ahead dy * w))
  step_at =
      let p = near dx (column_of w c) w s.columns a.west a.east in
      let q = near dy (row_of w c) h s.rows a.north a.south in
      rw (within w h (column_of w c) (row_of w c) dx dy _ refl _ refl p.1 q.1) (cell_lt w _ _ p.1 h q.1, step_sum w (column_of w c) (row_of w c) _ _ _ _ p.0 q.0)

  pub step_cell : stepped_at w h c dx dy < w * h
  step_cell = step_at.0

  pub step_from : stepped_at w h c dx dy + (w + 1) ≡ c + (ahead dx + ahead dy * w)
  step_from = step_at.1 ∙ ap (λ (k : ℕ). k + (ahead dx + ahead dy * w)) (cell_back w c)

-- an inner cell lies behind the first row and the first cell of the second
pub inner_behind : {w h c : ℕ} → Inner w h c → w + 1 ≤ c
inner_behind {w} {h} {c} a = omega (arith, a.west, a.north, cell_back w c, mul-le-mul a.north (le_refl w))

-- the neighbours of an inner cell
module _ (w h c d : ℕ) (lo : 1 ≤ d) (hi : d ≤ 8) (a : Inner w h c) where
  pub inner_cell : neighbour_at w h c d < w * h
  inner_cell = rw (by_step w h (column_of w c) (row_of w c) d) (step_cell w h c (step_x d) (step_y d) (step_of d) a)

  pub inner_from : neighbour_at w h c d + (w + 1) ≡ c + (ahead (step_x d) + ahead (step_y d) * w)
  inner_from = rw (by_step w h (column_of w c) (row_of w c) d) (step_from w h c (step_x d) (step_y d) (step_of d) a)

  pub inner_below : (n m : ℕ) → n ≡ w * h → m ≡ neighbour_at w h c d → m < n
  inner_below n m e f = omega (arith, inner_cell)

-- a cell that is not on the border is an inner one
module _ (w h c : ℕ) (a : Bool) (e : a ≡ (eqb (column_of w c) 0 || eqb (column_of w c) (w - 1))) where
  pub inner_columns : a ≡ true → false ≡ not (border_at w h c)
  inner_columns t = ap (λ (z : Bool). not (z || (eqb (row_of w c) 0 || eqb (row_of w c) (h - 1)))) (sym t ∙ e) ∙ ap not (sym (border_ends w h (column_of w c) (row_of w c)))

  pub inner_rows : (b : Bool) → b ≡ (eqb (row_of w c) 0 || eqb (row_of w c) (h - 1)) → a ≡ false → not b ≡ not (border_at w h c)
  inner_rows b f t = ap not (f ∙ ap (λ (z : Bool). z || (eqb (row_of w c) 0 || eqb (row_of w c) (h - 1))) (sym t ∙ e)) ∙ ap not (sym (border_ends w h (column_of w c) (row_of w c)))

pub is_inner : (w h c : ℕ) → c < w * h → w ≤ 4096 → h ≤ 4096 → not (border_at w h c) ≡ true → Inner w h c
is_inner w h c l wide high e = go (eqb (column_of w c) 0) refl (eqb (row_of w c) 0) refl (eqb (column_of w c) (w - 1)) refl (eqb (row_of w c) (h - 1)) refl e
  where
    go : (a : Bool) → eqb (column_of w c) 0 ≡ a → (b : Bool) → eqb (row_of w c) 0 ≡ b → (d : Bool) → eqb (column_of w c) (w - 1) ≡ d
        → (f : Bool) → eqb (row_of w c) (h - 1) ≡ f → not (a || b || d || f) ≡ true → Inner w h c
    go true a b b' d d' f f' t = absurd (true≢false (sym t))
    go false a true b d d' f f' t = absurd (true≢false (sym t))
    go false a false b true d f f' t = absurd (true≢false (sym t))
    go false a false b false d true f t = absurd (true≢false (sym t))
    go false a false b false d false f t =
        let west : column_of w c ≡ 0 → ⊥ = eqb-false (column_of w c) 0 a in
        let north : row_of w c ≡ 0 → ⊥ = eqb-false (row_of w c) 0 b in
        let east : column_of w c ≡ w - 1 → ⊥ = eqb-false (column_of w c) (w - 1) d in
        let south : row_of w c ≡ h - 1 → ⊥ = eqb-false (row_of w c) (h - 1) f in
        let column = column_lt w h c l in
        let row = row_lt w h c l in
        record { west = omega arith; east = omega arith; north = omega arith; south = omega arith; wide = wide; high = high }

-- the inner cells of a row
pub inner_at : (w h x y : ℕ) → 1 ≤ x → x + 1 < w → 1 ≤ y → y + 1 < h → w ≤ 4096 → h ≤ 4096 → Inner w h (x + y * w)
inner_at w h x y west east north south wide high =
    let column = column_cell w x y (omega arith) in
    let row = row_cell w x y (omega arith) in
    record { west = rw column west; east = rw column east; north = rw row north; south = rw row south; wide = wide; high = high }

module _ (w h y n : ℕ) (e : n ≡ inner_of w h y) where
  pub inner_most : 1 ≤ w → 1 + n ≤ w
  unfolding inner_of
  inner_most l = rw e (go (ltb w 3) refl (eqb y 0 || eqb y (h - 1)))
    where
      go : (a : Bool) → ltb w 3 ≡ a → (b : Bool) → 1 + cond a 0 (cond b 0 (w - 2)) ≤ w
      go true e b = omega arith
      go false e true = omega arith
      go false e false = omega (arith, ltb-false w 3 e)

  -- they are inner cells
  inner_each : y < h → w ≤ 4096 → h ≤ 4096 → (i : ℕ) → i < n → Inner w h (1 + i + y * w)
  unfolding inner_of
  inner_each below wide high i l = go (ltb w 3) refl (eqb y 0) refl (eqb y (h - 1)) refl (rw e at l)
    where
      go : (a : Bool) → ltb w 3 ≡ a → (b : Bool) → eqb y 0 ≡ b → (c : Bool) → eqb y (h - 1) ≡ c → i < cond a 0 (cond (b || c) 0 (w - 2)) → Inner w h (1 + i + y * w)
      go true _ b _ c _ l = absurd (omega arith)
      go false _ true _ c _ l = absurd (omega arith)
      go false _ false _ true _ l = absurd (omega arith)
      go false e false f false g l =
          let first : y ≡ 0 → ⊥ = eqb-false y 0 f in
          let last : y ≡ h - 1 → ⊥ = eqb-false y (h - 1) g in
          inner_at w h (1 + i) y (omega arith) (omega arith) (omega arith) (omega arith) wide high

  pub row_inner : y < h → w ≤ 4096 → h ≤ 4096 → InnerRun w h (1 + y * w) n
  row_inner below wide high = record {
    inner = λ i l. let s : 1 + i + y * w ≡ 1 + y * w + i = omega arith in subst (Inner w h) s (inner_each below wide high i l);
  }

-- fewer cells of a run
pub run_part : {w h c n : ℕ} (i b : ℕ) → InnerRun w h c n → i + b ≤ n → InnerRun w h (c + i) b
run_part {w} {h} {c} i b a l = record { inner = λ j k. let e : c + (i + j) ≡ c + i + j = omega arith in subst (Inner w h) e (a.inner (i + j) (omega arith)) }
