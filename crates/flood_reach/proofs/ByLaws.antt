-- What a cell that leaves has done once it has reached the cells of a list, and that all its neighbours, or those not pushed yet, will do.
use Prim.Native.Nat.{ℕ, suc, ◌+◌, ◌≤◌, ◌<◌}
use mathlib.Core.Path.{◌≡◌, refl, sym, ap, ◌∙◌, subst}
use mathlib.Core.Bool.{Bool}
use mathlib.Core.List.{List, [], ◌∷◌, ◌++◌}
use native.Mathlib.Numerals.{add-one}
use lib.ListN.{length, get_or, take}
use lib.Seq.{take-suc, take_all}
use lib.Ieee.{Float}
use Rattle.loops.specs.Loops.{tabulate}
use Rattle.grid.specs.Directions.{neighbour_at}
use Rattle.grid_spacing.specs.declared.Distances.{Distances}
use Rattle.drainage.specs.Ground.{floats, ground_by}
use Rattle.drainage.specs.Flood.{push, push_all}
use Rattle.drainage.proofs.KeptLaws.{pushed_to}
use Rattle.flood_start.specs.Slices.{FloodSlices, state_with}
use Rattle.flood_queue.specs.Scans.{Queued}
use Rattle.flood_reach.specs.Reaches.{pushed_by, ReachedOne, ReachedBy, ReachedAll, Found}
use Rattle.flood_reach.proofs.FoundLaws.{pushed_by_more, pushed_by_near, unpushed_all}

-- the neighbour in the direction after the first d
pub near_next : (w h c d m : ℕ) → m ≡ neighbour_at w h c (d + 1) → m ≡ neighbour_at w h c (suc d)
near_next w h c d m e = e ∙ ap (neighbour_at w h c) (add-one d)

module _ (hs : List Float) (limit c : ℕ) (lent : FloodSlices) where
  pub reached_start :
      (len : ℕ) (queue : List ℕ) → Queued hs limit lent.status lent.spill len queue → get_or lent.status c 0 ≡ 2
      → ReachedBy hs limit c [] lent len lent queue
  unfolding pushed_by
  reached_start len queue q e = record { left = e; level = refl; state = λ g order. refl; queued = q }

  module _ (cells : List ℕ) (len₁ : ℕ) (lent₁ : FloodSlices) (queue₁ : List ℕ) (r : ReachedBy hs limit c cells lent len₁ lent₁ queue₁) where
    -- one cell more
    reached_cell :
        (m len₂ : ℕ) (lent₂ : FloodSlices) (queue₂ : List ℕ) → ReachedOne hs limit c m lent₁ len₂ lent₂ queue₂
        → ReachedBy hs limit c (cells ++ (m ∷ [])) lent len₂ lent₂ queue₂
    unfolding pushed_by
    reached_cell m len₂ lent₂ queue₂ s = record {
      left = s.left;
      level = s.level ∙ r.level;
      state = λ g order.
          s.state g order
          ∙ ap (push floats g hs c m) (r.state g order)
          ∙ sym (pushed_by_more floats g hs c cells m (state_with lent order));
      queued = s.queued;
    }

    -- the next of a list
    pub reached_next :
        (found : List ℕ) (i len₂ : ℕ) (lent₂ : FloodSlices) (queue₂ : List ℕ) → cells ≡ take i found → i < length found
        → ReachedOne hs limit c (get_or found i 0) lent₁ len₂ lent₂ queue₂ → ReachedBy hs limit c (take (i + 1) found) lent len₂ lent₂ queue₂
    reached_next found i len₂ lent₂ queue₂ e l s =
        subst (λ l. ReachedBy hs limit c l lent len₂ lent₂ queue₂)
        (ap (λ l. l ++ (get_or found i 0 ∷ [])) e ∙ sym (take-suc found i 0 l) ∙ ap (λ i. take i found) (sym (add-one i)))
        (reached_cell (get_or found i 0) len₂ lent₂ queue₂ s)

    -- all of it are reached
    pub reached_end : (found : List ℕ) (i : ℕ) → length found ≤ i → cells ≡ take i found → ReachedBy hs limit c found lent len₁ lent₁ queue₁
    reached_end found i b e = subst (λ l. ReachedBy hs limit c l lent len₁ lent₁ queue₁) (e ∙ take_all i found b) r

    all_reached :
        (w h : ℕ)
        → ((ds : Distances) (base : ℕ → Bool) (order : List ℕ) → pushed_by floats (ground_by w h ds base) hs c cells (state_with lent order) ≡ pushed_to floats (ground_by w h ds base) hs c 8 (state_with lent order))
        → ReachedAll w h hs limit c lent len₁ lent₁ queue₁
    unfolding push_all
    all_reached w h e = record { state = λ ds base order. r.state (ground_by w h ds base) order ∙ e ds base order; queued = r.queued }

    -- all the neighbours are reached
    pub all_near : (w h : ℕ) → cells ≡ tabulate 8 (λ i. neighbour_at w h c (suc i)) → ReachedAll w h hs limit c lent len₁ lent₁ queue₁
    all_near w h e =
        all_reached w h (λ ds base order.
        ap (λ l. pushed_by floats (ground_by w h ds base) hs c l (state_with lent order)) e
        ∙ pushed_by_near floats (ground_by w h ds base) hs c 8 (state_with lent order))

    -- so they are once those not pushed yet are
    pub found_reached : (w h : ℕ) (found : List ℕ) (some : ℕ) → Found (neighbour_at w h c) lent.status 8 some found → cells ≡ take some found → ReachedAll w h hs limit c lent len₁ lent₁ queue₁
    found_reached w h found some f e =
        all_reached w h (λ ds base order.
        ap (λ l. pushed_by floats (ground_by w h ds base) hs c l (state_with lent order)) (e ∙ f.cells)
        ∙ unpushed_all floats (ground_by w h ds base) hs c 8 (state_with lent order))
