-- The fold over the eight neighbours of an inner cell by their offsets is the fold by the neighbours themselves.
use Prim.Native.Nat.{ℕ, ◌+◌, ◌-◌, ◌*◌, ◌^◌, ◌≤◌, ◌<◌}
use mathlib.Core.Path.{◌≡◌, refl, sym, ap, ap₂, ◌∙◌, subst}
use mathlib.Core.Logic.{◌⊎◌, inr}
use mathlib.Core.Bool.{Bool, true, false, ◌&&◌, cond}
use mathlib.Core.List.{List}
use native.Mathlib.Omega.{arith}
use native.Mathlib.Numerals.{add-one}
use lib.Dec.{eqb}
use lib.ListN.{length, get_or}
use lib.Ieee.{Float, nan, lt}
use borrow.Author.Tests.{eq-eqb, ne_eqb}
use native.Mathlib.Decide.{ℕ_discrete}
use Rattle.loops.proofs.TurnLaws.{turns_hold}
use Rattle.grid.specs.Sides.{column_of, row_of}
use Rattle.grid.specs.Directions.{neighbour_at, Adjacent}
use Rattle.grid.proofs.SidesLaws.{cell_lt, cell_back, cells_bound}
use Rattle.grid_inner.specs.Inner.{Inner}
use Rattle.grid_inner.proofs.InnerLaws.{inner_cell, inner_below}
use Rattle.grid_spacing.specs.Distances.{nine_of, distance_in}
use Rattle.grid_spacing.specs.declared.Distances.{Distances}
use Rattle.receiver_steps.specs.Distance.{apart}
use Rattle.receiver_steps.specs.Step.{Near, place_distances, distance_place}
use Rattle.receiver_steps.proofs.PlaceLaws.{near_of, gap_bound, place_read}
use Rattle.receiver.specs.declared.Best.{Best}
use Rattle.receiver.specs.Passes.{slope_down, compared_as, Received}
use Rattle.receiver.proofs.ReceiverLaws.{Leading, leading_none, leading_more, leading_done, received_own, compared_inside}
use Rattle.receiver_blocks.specs.Runs.{offset_from, discoverer_as, steepest_from}

module _ {w h c : ℕ} (a : Inner w h c) where
  pub inner_inside : c < w * h
  inner_inside =
      let l = cell_lt w (column_of w c) (row_of w c) (omega (arith, a.east)) h (omega (arith, a.south)) in
      subst (λ (k : ℕ). k < w * h) (cell_back w c) l

  pub inner_wide : 3 ≤ w
  inner_wide = omega (arith, a.west, a.east)

  pub inner_few : w * h ≤ 2 ^ 24
  inner_few = cells_bound w h a.wide a.high

  module _ {f : ℕ} (n : (f ≡ c) ⊎ Adjacent w h c f) where
    pub discoverer_near : Near w c f
    discoverer_near = near_of (omega (arith, inner_wide)) a.wide n

    -- a discoverer lies at most one row and one cell away
    pub discoverer_back : c ≤ f + (w + 1)
    discoverer_back = omega (arith, gap_bound discoverer_near inner_wide)

    pub discoverer_ahead : f ≤ c + (w + 1)
    discoverer_ahead = omega (arith, gap_bound discoverer_near inner_wide)

  -- so does a neighbour
  pub inner_adjacent : (d : ℕ) → d < 8 → (m : ℕ) → m ≡ neighbour_at w h c (d + 1) → Adjacent w h c m
  inner_adjacent d l m e =
      record { direction = d + 1; first = omega arith; last = omega arith; inside = inner_below w h c (d + 1) (omega arith) (omega arith) a _ _ refl e; leads = sym e }

-- the slope down to a discoverer, as the code works it out
pub slope_read :
    (ds : Distances) (w : ℕ) (spill : List Float) (c f : ℕ) → Near w c f → 3 ≤ w → (by_place : List Float) (place : ℕ) → by_place ≡ place_distances ds
    → place ≡ distance_place w c f
    → slope_down spill c f (get_or by_place place nan) ≡ slope_down spill c f (apart ds w c f)
slope_read ds w spill c f near wide by_place place e p = ap (slope_down spill c f) (place_read near ds wide by_place place e p)

-- b is a, with the offset from c in the place of the cell
pub record Offset (w c : ℕ) (a b : Best) : Type 0 where
  pub cell : c + b.cell ≡ a.cell + (w + 1)
  pub slope : b.slope ≡ a.slope

offset_where : {w c : ℕ} (t : Bool) {a b : Best} (m o : ℕ) (s : Float) → Offset w c a b → c + o ≡ m + (w + 1)
    → Offset w c (cond t (record { cell = m; slope = s }) a) (cond t (record { cell = o; slope = s }) b)
offset_where true m o s p e = record { cell = e; slope = refl }
offset_where false m o s p e = p

-- the best of the discoverer f and the first d neighbours of cell c, by its offset
pub record Following (ds : Distances) (w h : ℕ) (spill : List Float) (c f d : ℕ) (best : Best) : Type 0 where
  pub lead : Best
  pub leads : Leading ds w h spill c f d lead
  pub same : Offset w c lead best

module _ (ds : Distances) (w h : ℕ) (spill : List Float) (c f : ℕ) (long : length spill ≡ w * h) (a : Inner w h c) (n : (f ≡ c) ⊎ Adjacent w h c f) where
  following_none : Following ds w h spill c f 0 (discoverer_as ds w spill c f)
  following_none = record {
    lead = record { cell = f; slope = slope_down spill c f (apart ds w c f) };
    leads = leading_none ds w h spill c f (inner_inside a) n (apart ds w c f) refl;
    same = record { cell = omega (arith, discoverer_back a n); slope = refl };
  }

  following_more :
      (d : ℕ) (b : Best) → d < 8 → Following ds w h spill c f d b
      → Following ds w h spill c f (d + 1) (compared_as (nine_of ds) spill c (d + 1) (neighbour_at w h c (d + 1)) (offset_from w c (neighbour_at w h c (d + 1))) b)
  following_more d b l p =
      let m : ℕ = neighbour_at w h c (d + 1) in
      let inside = inner_cell w h c (d + 1) (omega arith) (omega arith) a in
      record {
        lead = compared_as (nine_of ds) spill c (d + 1) m m p.lead;
        leads =
            leading_more ds w h spill c f d m p.lead _ p.leads refl
            (compared_inside ds w h spill c (d + 1) m p.lead long _ (omega (arith, inside, long)) refl refl);
        same =
            subst
            (λ (x : Float).
            Offset w c (compared_as (nine_of ds) spill c (d + 1) m m p.lead)
            (cond (lt (get_or spill m nan) (get_or spill c nan) && lt x (slope_down spill c m (distance_in ds (d + 1))))
            (record { cell = offset_from w c m; slope = slope_down spill c m (distance_in ds (d + 1)) }) b))
            (sym p.same.slope)
            (offset_where (lt (get_or spill m nan) (get_or spill c nan) && lt p.lead.slope (slope_down spill c m (distance_in ds (d + 1)))) m _ _ p.same
            (omega (arith, discoverer_back a (inr (inner_adjacent a d l m refl)))));
      }

  pub following_all : Following ds w h spill c f 8 (steepest_from (nine_of ds) w h spill c (discoverer_as ds w spill c f))
  unfolding steepest_from
  following_all =
      turns_hold (λ i. compared_as (nine_of ds) spill c (i + 1) (neighbour_at w h c (i + 1)) (offset_from w c (neighbour_at w h c (i + 1)))) (Following ds w h spill c f) (discoverer_as ds w spill c f) 8 following_none
      (λ i t l p. subst (λ (k : ℕ). Following ds w h spill c f k (compared_as (nine_of ds) spill c (i + 1) (neighbour_at w h c (i + 1)) (offset_from w c (neighbour_at w h c (i + 1))) t)) (add-one i) (following_more i t l p))

  -- the offset that the fold leaves: it leads to a cell, the receiver
  pub offset_enough : w + 1 ≤ c + (steepest_from (nine_of ds) w h spill c (discoverer_as ds w spill c f)).cell
  offset_enough = let p = following_all in omega (arith, p.same.cell)

  pub offset_below : c + (steepest_from (nine_of ds) w h spill c (discoverer_as ds w spill c f)).cell ≤ 2 ^ 25
  offset_below =
      let p = following_all in
      omega (arith, p.same.cell, p.leads.inside, inner_few a, a.wide)

  pub offset_received :
      (r : ℕ) → r ≡ cond (eqb f c) f (c + (steepest_from (nine_of ds) w h spill c (discoverer_as ds w spill c f)).cell - (w + 1)) → Received ds w h spill c f r
  offset_received r e = go (ℕ_discrete f c)
    where
      go : Dec (f ≡ c) → Received ds w h spill c f r
      go (yes own) = subst (Received ds w h spill c f) (sym (e ∙ rw (eq-eqb f c own))) (received_own ds w h spill c f own (inner_inside a))
      go (no other) =
          let p = following_all in
          let back : p.lead.cell ≡ c + (steepest_from (nine_of ds) w h spill c (discoverer_as ds w spill c f)).cell - (w + 1) = omega (arith, p.same.cell) in
          subst (Received ds w h spill c f) (sym (e ∙ rw (ne_eqb f c other) (sym back))) (leading_done ds w h spill c f 8 p.lead other (omega arith) (omega arith) p.leads)

-- the loop over the directions: the neighbour in direction i + 1 against the best so far, as the code works it out
module _ (by-direction : List Float) (w h : ℕ) (spill : List Float) (c : ℕ) where
  abbrev pub against : ℕ → Best → Best
  against i = compared_as by-direction spill c (i + 1) (neighbour_at w h c (i + 1)) (offset_from w c (neighbour_at w h c (i + 1)))

  pub against_is : (d m o : ℕ) (best r : Best) → m ≡ neighbour_at w h c (d + 1) → o ≡ offset_from w c m → r ≡ compared_as by-direction spill c (d + 1) m o best → r ≡ against d best
  against_is d m o best r e f g = g ∙ ap₂ (λ (m o : ℕ). compared_as by-direction spill c (d + 1) m o best) e (f ∙ ap (offset_from w c) e)
