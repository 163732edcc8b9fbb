-- The distance from a cell to its receiver is that of the direction which leads there.
use Prim.Native.Nat.{ℕ, zero, suc, ◌-◌, ◌*◌, ◌≤◌, ◌<◌}
use native.Mathlib.Omega.{arith}
use mathlib.Core.Path.{◌≡◌, refl, sym, ap, ◌∙◌}
use mathlib.Core.Logic.{◌≢◌, ◌⊎◌, inl, inr}
use mathlib.Core.Bool.{Bool, true, false, cond}
use lib.IntN.{ℤ, pos, negsuc}
use lib.Dec.{eqb}
use lib.Ieee.{Float}
use borrow.Author.Tests.{eq-eqb, ne_eqb, eqb-true, eqb-false}
use Rattle.loops.specs.Loops.{turns}
use Rattle.grid.specs.Sides.{column_of, row_of}
use Rattle.grid.specs.Directions.{shifted_of, neighbour_at, Adjacent}
use Rattle.grid.proofs.NeighbourLaws.{step_x, step_y, each_direction, from_ahead, from_behind, Beside, inside_beside, neighbour_apart, is_zero}
use Rattle.grid_spacing.specs.Distances.{cell_side, distance_in}
use Rattle.grid_spacing.specs.declared.Distances.{Distances}
use Rattle.drainage.specs.Ground.{ground_by}
use Rattle.drainage.specs.Receivers.{direction_to, distance_to}
use Rattle.receiver_steps.specs.Distance.{apart, DistanceByCells}

-- ---- the last number i < n with f i ≡ r, as i + 1; 0 where there is none
abbrev last_of : ℕ → (ℕ → ℕ) → ℕ → ℕ
last_of n f r = turns n (λ i d. cond (eqb (f i) r) (suc i) d) 0

last_none : (n : ℕ) (f : ℕ → ℕ) (r : ℕ) → ((i : ℕ) → i < n → f i ≢ r) → last_of n f r ≡ 0
unfolding turns
last_none zero f r h = refl
last_none (suc n) f r h = rw (ne_eqb (f n) r (h n (omega arith))) (last_none n f r (λ i l. h i (omega arith)))

last_at : (n : ℕ) (f : ℕ → ℕ) (r i : ℕ) → i < n → f i ≡ r → (k : ℕ) × (last_of n f r ≡ suc k) × (k < n) × (f k ≡ r)
unfolding turns
last_at zero f r i l e = absurd (omega arith)
last_at (suc n) f r i l e = go (eqb (f n) r) refl (λ k. last_at n f r i k e)
  where
    go : (b : Bool) → eqb (f n) r ≡ b → (i < n → (k : ℕ) × (last_of n f r ≡ suc k) × (k < n) × (f k ≡ r))
        → (k : ℕ) × (cond b (suc n) (last_of n f r) ≡ suc k) × (k < suc n) × (f k ≡ r)
    go true t h = (n, refl, omega arith, eqb-true (f n) r t)
    go false t h =
        let other : i ≢ n = λ q. eqb-false (f n) r t (ap f (sym q) ∙ e) in
        let s = h (omega arith) in
        (s.0, s.1, omega (arith, s.2), s.3)

-- by whether a direction keeps the column and the row; direction 0 keeps both
abbrev by_zero : Distances → Bool → Bool → Float
by_zero ds x y = cond x (cond y cell_side ds.row) (cond y ds.column ds.diagonal)

by_steps : (ds : Distances) (d : ℕ) → 1 ≤ d → d ≤ 8 → distance_in ds d ≡ by_zero ds (is_zero (step_x d)) (is_zero (step_y d))
by_steps ds = each_direction (λ d. distance_in ds d ≡ by_zero ds (is_zero (step_x d)) (is_zero (step_y d))) refl refl refl refl refl refl refl refl

-- a step keeps a place exactly if it is 0
kept : (x : ℕ) (z : ℤ) (side n : ℕ) → shifted_of x z side ≡ n → n < side → eqb x n ≡ is_zero z
kept x (pos zero) side n e l = eq-eqb x n (omega (arith, from_ahead x 0 side n e l))
kept x (pos (suc k)) side n e l = ne_eqb x n (λ q. omega (arith, from_ahead x (suc k) side n e l))
kept x (negsuc k) side n e l = ne_eqb x n (λ q. omega (arith, from_behind x k side n e l))

module _ (ds : Distances) (w h : ℕ) (base : ℕ → Bool) (c : ℕ) (l : c < w * h) where
  own_distance : distance_to (ground_by w h ds base) c c ≡ apart ds w c c
  unfolding direction_to
  own_distance =
      let none : last_of 8 (λ i. neighbour_at w h c (suc i)) c ≡ 0 = last_none 8 _ c (λ i k e. neighbour_apart w h c (suc i) (omega arith) (omega arith) l (sym e)) in
      ap (distance_in ds) none ∙ sym (rw (eq-eqb (column_of w c) (column_of w c) refl, eq-eqb (row_of w c) (row_of w c) refl))

  near_distance : (r : ℕ) → Adjacent w h c r → distance_to (ground_by w h ds base) c r ≡ apart ds w c r
  unfolding direction_to
  near_distance r a =
      let s = last_at 8 (λ i. neighbour_at w h c (suc i)) r (a.direction - 1) (omega (arith, a.first, a.last)) (ap (neighbour_at w h c) (back a.direction a.first) ∙ a.leads) in
      let d : ℕ = suc s.0 in
      ap (distance_in ds) s.1 ∙ by_steps ds d (omega arith) (omega (arith, s.2)) ∙ go d (inside_beside w h c r d a.inside s.3)
    where
      back : (d : ℕ) → 1 ≤ d → suc (d - 1) ≡ d
      back d f = omega arith

      go : (d : ℕ) → Beside w h (column_of w c) (row_of w c) d (column_of w r) (row_of w r) → by_zero ds (is_zero (step_x d)) (is_zero (step_y d)) ≡ apart ds w c r
      go d b = rw (kept (column_of w c) (step_x d) w (column_of w r) b.column b.columns, kept (row_of w c) (step_y d) h (row_of w r) b.row b.rows)

  either_distance : (r : ℕ) → (r ≡ c) ⊎ Adjacent w h c r → apart ds w c r ≡ distance_to (ground_by w h ds base) c r
  either_distance r (inl e) = rw e (sym own_distance)
  either_distance r (inr a) = sym (near_distance r a)

pub distance_by_cells : DistanceByCells
distance_by_cells = either_distance
