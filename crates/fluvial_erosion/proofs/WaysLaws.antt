-- The settled heights of ways down are those that the incision along the list leaves.
use Prim.Native.Nat.{ℕ, ◌*◌, ◌≤◌}
use mathlib.Core.Path.{◌≡◌, refl, sym, ap, ◌∙◌, subst}
use mathlib.Core.Bool.{Bool}
use mathlib.Core.List.{List}
use lib.ListN.{length}
use lib.Ieee.{Float}
use Rattle.grid_spacing.specs.declared.Distances.{Distances}
use Rattle.drainage.specs.Ground.{ground_by}
use Rattle.drainage.specs.Ways.{WorkList}
use Rattle.incision_cell.specs.declared.Incision.{Incision}
use Rattle.incision_paths.specs.Settled.{settled_heights}
use Rattle.incision_paths.specs.Walk.{Ways}
use Rattle.incision_paths.proofs.HeightLaws.{heights_along}
use Rattle.fluvial_erosion.specs.Incision.{incise_along}
use Rattle.fluvial_erosion.specs.Along.{on_grid, Drains, Lengths, WaysDone}
use Rattle.fluvial_erosion.specs.declared.FluvialParams.{FluvialParams}
use Rattle.fluvial_erosion.proofs.CellLaws.{network, along_done}

module _ {w h : ℕ} {recv list : List ℕ} (drains : Drains w h recv list) where
  pub work : WorkList (length recv) recv list
  work = subst (λ (n : ℕ). WorkList n recv list) (sym drains.along.receivers) drains.work

  pub ways_of : {hs out area : ℕ} → Lengths (w * h) hs out area → 3 ≤ w → Ways w recv hs out
  ways_of l wide = record { network = network drains wide l.result; ordered = record { list = list; work = work }; heights = l.heights ∙ sym drains.along.receivers }

pub ways_done : WaysDone
ways_done w h recv list drains p ds areas hs long =
    along_done drains p ds areas hs refl long refl (heights_along (on_grid w h p ds) hs areas recv list (work drains) (long ∙ sym drains.along.receivers))

-- as the code comes to it: by settings that it put together
pub ways_left : {w h : ℕ} {recv list : List ℕ} → Drains w h recv list → (p : FluvialParams) (ds : Distances) (areas hs : List Float) {by : Incision} {out : List Float} → by ≡ on_grid w h p ds
    → length hs ≡ w * h → out ≡ settled_heights by hs areas recv → (base : ℕ → Bool) → out ≡ incise_along (ground_by w h ds base) p areas recv list hs
ways_left {w} {h} {recv} {list} drains p ds areas hs e long o base =
    o ∙ ap (λ (b : Incision). settled_heights b hs areas recv) e ∙ ways_done w h recv list drains p ds areas hs long base
