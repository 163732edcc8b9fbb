-- Laws of the receivers: one neighbour against the best so far, all eight, and the list of them.
use Prim.Native.Nat.{ℕ, suc, ◌+◌, ◌*◌, ◌≤◌, ◌<◌}
use mathlib.Core.Path.{◌≡◌, sym, ap, ap₂, ◌∙◌}
use mathlib.Core.Logic.{◌⊎◌, inl, inr}
use mathlib.Core.Bool.{Bool, true, ◌&&◌, cond}
use mathlib.Core.List.{List}
use native.Mathlib.Numerals.{add-one}
use native.Mathlib.Omega.{arith}
use lib.ListN.{length, get_or}
use lib.Dec.{ltb}
use lib.Ieee.{Float, nan, lt}
use borrow.Author.Tests.{lt-ltb, eq-eqb, ne_eqb}
use Rattle.loops.specs.Loops.{turns}
use Rattle.loops.proofs.TestLaws.{either, through}
use Rattle.loops.proofs.TurnLaws.{turns_none, turns_more}
use Rattle.loops.proofs.LoopLaws.{at_end}
use Rattle.grid.specs.Directions.{neighbour_at, Adjacent}
use Rattle.grid_spacing.specs.Distances.{nine_of, distance_in}
use Rattle.grid_spacing.specs.declared.Distances.{Distances}
use Rattle.drainage.specs.Ground.{floats, ground_by}
use Rattle.drainage.specs.Receivers.{Steepest, distance_to, compared, steepest_of, receiver_of}
use Rattle.receiver.specs.declared.Best.{Best}
use Rattle.receiver.specs.Passes.{steepest_as, slope_down, compared_as, Compared, Received}
use Rattle.receiver_steps.specs.Distance.{apart}
use Rattle.receiver_steps.proofs.DistanceLaws.{distance_by_cells}

module _ (ds : Distances) (w h : ℕ) (spill : List Float) (c d m : ℕ) (best : Best) (long : length spill ≡ w * h) where
  abbrev slope : Float
  slope = slope_down spill c m (distance_in ds d)

  -- the comparison by its tests, the first of which is known
  abbrev chosen : Bool → Steepest
  chosen inside = cond (inside && (lt (get_or spill m nan) (get_or spill c nan) && lt best.slope slope)) (record { cell = m; slope = slope }) (steepest_as best)

  by_test : (a : Bool) → ltb m (w * h) ≡ a → (base : ℕ → Bool) → chosen a ≡ compared floats (ground_by w h ds base) spill c d m (steepest_as best)
  by_test a e base = ap chosen (sym e)

  pub compared_inside : (r : Best) → m < length spill → {by-direction : List Float} → by-direction ≡ nine_of ds → r ≡ compared_as by-direction spill c d m m best → Compared ds w h spill c d m best r
  compared_inside r l {by-direction} t e = record {
    is = λ base. ap steepest_as (e ∙ ap (λ (k : List Float). compared_as k spill c d m m best) t) ∙ through steepest_as (lt (get_or spill m nan) (get_or spill c nan) && lt best.slope slope) (record { cell = m; slope = slope }) best ∙ by_test true (lt-ltb m (w * h) (omega arith)) base;
    inside = λ i. rw (e ∙ ap (λ (k : List Float). compared_as k spill c d m m best) t) (either (λ (b : Best). b.cell < w * h) (lt (get_or spill m nan) (get_or spill c nan) && lt best.slope slope) (record { cell = m; slope = slope }) best (omega arith) i);
  }

module _ (ds : Distances) (w h : ℕ) (spill : List Float) (c : ℕ) (base : ℕ → Bool) where
  -- the discoverer f and the slope to it, and the neighbour in direction i + 1 against the best so far
  abbrev to_discoverer : ℕ → Steepest
  to_discoverer f = record { cell = f; slope = slope_down spill c f (distance_to (ground_by w h ds base) c f) }

  abbrev against : ℕ → Steepest → Steepest
  against i = compared floats (ground_by w h ds base) spill c (suc i) (neighbour_at w h c (suc i))

-- the best of the discoverer f and the first d neighbours of cell c
pub record Leading (ds : Distances) (w h : ℕ) (spill : List Float) (c f d : ℕ) (best : Best) : Type 0 where
  pub is : (base : ℕ → Bool) → steepest_as best ≡ turns d (against ds w h spill c base) (to_discoverer ds w h spill c base f)
  pub inside : best.cell < w * h

-- a discoverer is a cell
pub near_inside : (w h c f : ℕ) → c < w * h → (f ≡ c) ⊎ Adjacent w h c f → f < w * h
near_inside w h c f l (inl e) = omega arith
near_inside w h c f l (inr a) = a.inside

module _ (ds : Distances) (w h : ℕ) (spill : List Float) (c f : ℕ) where
  -- the discoverer and its slope
  pub leading_none :
      c < w * h → (f ≡ c) ⊎ Adjacent w h c f → (distance : Float) → distance ≡ apart ds w c f
      → Leading ds w h spill c f 0 (record { cell = f; slope = slope_down spill c f distance })
  leading_none l near distance e = record {
    is = λ base.
        ap (λ x. record { cell = f; slope = slope_down spill c f x }) (e ∙ distance_by_cells ds w h base c l f near)
        ∙ sym (turns_none (against ds w h spill c base) (to_discoverer ds w h spill c base f));
    inside = near_inside w h c f l near;
  }

  pub leading_more :
      (d m : ℕ) (best r : Best) → Leading ds w h spill c f d best → m ≡ neighbour_at w h c (d + 1) → Compared ds w h spill c (d + 1) m best r
      → Leading ds w h spill c f (d + 1) r
  leading_more d m best r b e s = record {
    is = λ base.
        s.is base
        ∙ ap₂ (λ m t. compared floats (ground_by w h ds base) spill c (d + 1) m t) e (b.is base)
        ∙ ap (λ k. compared floats (ground_by w h ds base) spill c k (neighbour_at w h c k) (turns d (against ds w h spill c base) (to_discoverer ds w h spill c base f))) (add-one d)
        ∙ sym (turns_more (against ds w h spill c base) d (to_discoverer ds w h spill c base f));
    inside = s.inside b.inside;
  }

  pub leading_done : (d : ℕ) (best : Best) → (f ≡ c → ⊥) → d ≤ 8 → 8 ≤ d → Leading ds w h spill c f d best → Received ds w h spill c f best.cell
  unfolding receiver_of steepest_of
  leading_done d best other lo hi b = record {
    is = λ base.
        ap (λ (s : Steepest). s.cell) (at_end (λ (n : ℕ). turns n (against ds w h spill c base) (to_discoverer ds w h spill c base f)) (b.is base) lo hi)
        ∙ sym (ap (λ t. cond t c (steepest_of floats (ground_by w h ds base) spill c f).cell) (ne_eqb f c other));
    inside = b.inside;
  }

  -- a base cell
  pub received_own : f ≡ c → c < w * h → Received ds w h spill c f f
  unfolding receiver_of
  received_own e l = record {
    is = λ base. e ∙ sym (ap (λ t. cond t c (steepest_of floats (ground_by w h ds base) spill c f).cell) (eq-eqb f c e));
    inside = omega arith;
  }
