-- The distance that stands at a step's place is that of the step.
use Prim.Native.Nat.{ℕ, suc, ◌+◌, ◌-◌, ◌*◌, ◌≤◌, ◌<◌}
use native.Mathlib.Omega.{arith}
use native.Mathlib.Nat.{suc-mul}
use native.Mathlib.Decide.{ℕ_discrete, dec_le}
use mathlib.Core.Path.{◌≡◌, refl, sym, ap, ◌∙◌, subst}
use mathlib.Core.Logic.{◌≢◌, ◌⊎◌, inl, inr}
use mathlib.Core.Bool.{cond}
use mathlib.Core.List.{List}
use lib.ListN.{get_or}
use lib.Dec.{ltb}
use lib.Ieee.{Float, nan}
use borrow.Author.Tests.{lt-ltb, le-ltb, eq-eqb, ne_eqb}
use Rattle.grid.specs.Sides.{cell_of, column_of, row_of}
use Rattle.grid.specs.Directions.{Adjacent}
use Rattle.grid.proofs.SidesLaws.{cell_back}
use Rattle.grid.proofs.NeighbourLaws.{step_x, step_y, inside_beside, step_of, close_step}
use Rattle.grid_spacing.specs.declared.Distances.{Distances}
use Rattle.receiver_steps.specs.Distance.{apart}
use Rattle.receiver_steps.specs.Step.{place_distances, gap, distance_place, Near}

-- the numbers of two cells of neighbouring columns and rows, on three columns or more
record Wide (w x y nx ny g : ℕ) : Type 0 where
  level : ny ≡ y → g < 2
  itself : ny ≡ y → nx ≡ x → g ≡ 0
  beside : ny ≡ y → nx ≢ x → g ≡ 1
  other : ny ≢ y → 2 ≤ g
  bound : g ≤ w + 1
  straight : ny ≢ y → nx ≡ x → g + 3 - w ≡ 3
  aslant : ny ≢ y → nx ≢ x → (g + 3 - w ≡ 2) ⊎ (g + 3 - w ≡ 4)

-- in one row, and in a row and the one below it
wide_below : (w x y nx ny : ℕ) → 3 ≤ w → x ≤ nx + 1 → nx ≤ x + 1 → y ≤ ny → ny ≤ y + 1 → Wide w x y nx ny (gap (x + y * w) (nx + ny * w))
wide_below w x y nx ny wide west east north south = go (ℕ_discrete ny y)
  where
    side : Dec (nx ≡ suc x) → nx ≢ x → ny * w ≡ y * w + w → (gap (x + y * w) (nx + ny * w) + 3 - w ≡ 2) ⊎ (gap (x + y * w) (nx + ny * w) + 3 - w ≡ 4)
    side (yes d) s m = inr (omega (arith, m))
    side (no d) s m = inl (omega (arith, m))

    go : Dec (ny ≡ y) → Wide w x y nx ny (gap (x + y * w) (nx + ny * w))
    go (yes e) =
        let m : ny * w ≡ y * w = ap (λ (k : ℕ). k * w) e in
        record { level = λ q. omega (arith, m); itself = λ q s. omega (arith, m); beside = λ q s. omega (arith, m, s); other = λ q. absurd (q e); bound = omega (arith, m); straight = λ q. absurd (q e); aslant = λ q. absurd (q e) }
    go (no e) =
        let b : ny ≡ suc y = omega arith in
        let m : ny * w ≡ y * w + w = ap (λ (k : ℕ). k * w) b ∙ suc-mul y w in
        record { level = λ q. absurd (e q); itself = λ q s. absurd (e q); beside = λ q s. absurd (e q); other = λ q. omega (arith, m); bound = omega (arith, m); straight = λ q s. omega (arith, m); aslant = λ q s. side (ℕ_discrete nx (suc x)) s m }

-- from the other of the two cells
wide_turned : {w x y nx ny g : ℕ} → Wide w nx ny x y g → Wide w x y nx ny g
wide_turned s =
    record {
      level = λ e. s.level (sym e);
      itself = λ e f. s.itself (sym e) (sym f);
      beside = λ e f. s.beside (sym e) (λ q. f (sym q));
      other = λ e. s.other (λ q. e (sym q));
      bound = s.bound;
      straight = λ e f. s.straight (λ q. e (sym q)) (sym f);
      aslant = λ e f. s.aslant (λ q. e (sym q)) (λ q. f (sym q));
    }

gap_turned : (i r : ℕ) → gap i r ≡ gap r i
gap_turned i r = omega arith

wide_gap : (w x y nx ny : ℕ) → 3 ≤ w → x ≤ nx + 1 → nx ≤ x + 1 → y ≤ ny + 1 → ny ≤ y + 1 → Wide w x y nx ny (gap (x + y * w) (nx + ny * w))
wide_gap w x y nx ny wide west east north south = go (dec_le y ny)
  where
    go : Dec (y ≤ ny) → Wide w x y nx ny (gap (x + y * w) (nx + ny * w))
    go (yes l) = wide_below w x y nx ny wide west east l south
    go (no l) = subst (Wide w x y nx ny) (gap_turned (nx + ny * w) (x + y * w)) (wide_turned (wide_below w nx ny x y wide east west (omega arith) north))

-- a place of the table, and the distance there
abbrev Holds : Distances → ℕ → Float → Type 0
Holds ds p d = (p < 5) × (get_or (place_distances ds) p nan ≡ d)

holds_at : (ds : Distances) {p : ℕ} (q : ℕ) {d : Float} → p ≡ q → Holds ds q d → Holds ds p d
holds_at ds q e h = rw e h

module _ {w i r : ℕ} (near : Near w i r) where
  gap_wide : 3 ≤ w → Wide w (column_of w i) (row_of w i) (column_of w r) (row_of w r) (gap i r)
  gap_wide l =
      subst (λ (k : ℕ). Wide w (column_of w i) (row_of w i) (column_of w r) (row_of w r) (gap k r)) (cell_back w i)
      (subst (λ (k : ℕ). Wide w (column_of w i) (row_of w i) (column_of w r) (row_of w r) (gap (cell_of w (column_of w i) (row_of w i)) k)) (cell_back w r)
      (wide_gap w (column_of w i) (row_of w i) (column_of w r) (row_of w r) l near.west near.east near.north near.south))

  -- the sum in the code
  pub gap_bound : 3 ≤ w → gap i r ≤ w + 1
  gap_bound l = (gap_wide l).bound

  module _ (ds : Distances) where
    wide : 3 ≤ w → Wide w (column_of w i) (row_of w i) (column_of w r) (row_of w r) (gap i r) → Holds ds (cond (ltb (gap i r) 2) (gap i r) (gap i r + 3 - w)) (apart ds w i r)
    wide l s = go (ℕ_discrete (row_of w r) (row_of w i)) (ℕ_discrete (column_of w r) (column_of w i))
      where
        go : Dec (row_of w r ≡ row_of w i) → Dec (column_of w r ≡ column_of w i) → Holds ds (cond (ltb (gap i r) 2) (gap i r) (gap i r + 3 - w)) (apart ds w i r)
        go (yes e) (yes c) =
            rw (lt-ltb (gap i r) 2 (s.level e), eq-eqb (row_of w i) (row_of w r) (sym e), eq-eqb (column_of w i) (column_of w r) (sym c)) (holds_at ds 0 (s.itself e c) (omega arith, refl))
        go (yes e) (no c) =
            rw (lt-ltb (gap i r) 2 (s.level e), eq-eqb (row_of w i) (row_of w r) (sym e), ne_eqb (column_of w i) (column_of w r) (λ q. c (sym q))) (holds_at ds 1 (s.beside e c) (omega arith, refl))
        go (no e) (yes c) =
            rw (le-ltb (gap i r) 2 (s.other e), ne_eqb (row_of w i) (row_of w r) (λ q. e (sym q)), eq-eqb (column_of w i) (column_of w r) (sym c)) (holds_at ds 3 (s.straight e c) (omega arith, refl))
        go (no e) (no c) =
            rw (le-ltb (gap i r) 2 (s.other e), ne_eqb (column_of w i) (column_of w r) (λ q. c (sym q)), ne_eqb (row_of w i) (row_of w r) (λ q. e (sym q))) (aslant (s.aslant e c))
          where
            aslant : (gap i r + 3 - w ≡ 2) ⊎ (gap i r + 3 - w ≡ 4) → Holds ds (gap i r + 3 - w) ds.diagonal
            aslant (inl q) = holds_at ds 2 q (omega arith, refl)
            aslant (inr q) = holds_at ds 4 q (omega arith, refl)

    pub place_holds : 3 ≤ w → Holds ds (distance_place w i r) (apart ds w i r)
    unfolding distance_place
    place_holds l = wide l (gap_wide l)

    -- as the code reads it
    pub place_read : 3 ≤ w → (by_place : List Float) (place : ℕ) → by_place ≡ place_distances ds → place ≡ distance_place w i r → get_or by_place place nan ≡ apart ds w i r
    place_read l by_place place e p = ap (λ (t : List Float). get_or t place nan) e ∙ ap (λ (k : ℕ). get_or (place_distances ds) k nan) p ∙ (place_holds l).1

-- ---- the two ends of `step_place`
module _ (w i r g : ℕ) (e : g ≡ gap i r) where
  pub place_level : g < 2 → g ≡ distance_place w i r
  unfolding distance_place
  place_level k = rw (← e, lt-ltb g 2 k)

  pub place_across : 2 ≤ g → g + 3 - w ≡ distance_place w i r
  unfolding distance_place
  place_across k = rw (← e, le-ltb g 2 k)

-- ---- a receiver is near
pub near_of : {w h c r : ℕ} → 0 < w → w ≤ 4096 → (r ≡ c) ⊎ Adjacent w h c r → Near w c r
near_of some wide (inl e) = rw e (record { some = some; wide = wide; west = omega arith; east = omega arith; north = omega arith; south = omega arith })
near_of {w} {h} {c} {r} some wide (inr a) =
    let b = inside_beside w h c r a.direction a.inside a.leads in
    let s = step_of a.direction in
    let x = close_step (column_of w c) (step_x a.direction) w (column_of w r) s.columns b.column b.columns in
    let y = close_step (row_of w c) (step_y a.direction) h (row_of w r) s.rows b.row b.rows in
    record { some = some; wide = wide; west = x.0; east = x.1; north = y.0; south = y.1 }
