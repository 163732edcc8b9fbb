-- Incisions along the list, as the code does them cell by cell.
use Prim.Native.Nat.{ℕ, suc, ◌+◌, ◌*◌, ◌^◌, ◌≤◌, ◌<◌}
use native.Mathlib.Numerals.{add-one}
use native.Mathlib.Omega.{arith}
use mathlib.Core.Path.{◌≡◌, refl, sym, ap, ap₂, ◌∙◌}
use mathlib.Core.Bool.{Bool}
use mathlib.Core.List.{List}
use lib.IntN.{pos}
use lib.ListN.{length, get_or, set, drop, length-set}
use lib.Seq.{drop-cons, drop-length}
use lib.Dec.{T}
use lib.Ieee.{Float, nan, binary32, in_float}
use Rattle.floats.proofs.WholeLaws.{float_in}
use Rattle.grid.specs.Sides.{InRange}
use Rattle.grid.proofs.SidesLaws.{cells_bound, some_column}
use Rattle.grid_spacing.specs.declared.Distances.{Distances}
use Rattle.drainage.specs.Ground.{ground_by}
use Rattle.drainage.specs.Ways.{areas_along}
use Rattle.areas.specs.Sums.{Along}
use Rattle.receiver_steps.proofs.DistanceLaws.{distance_by_cells}
use Rattle.receiver_steps.specs.Step.{Near, NearReceivers}
use Rattle.receiver_steps.proofs.PlaceLaws.{near_of}
use Rattle.areas.specs.Words.{SteppedNetwork}
use Rattle.incision_cell.specs.Cut.{incision_coef, drained_to, cut_of, cut_down, CellOf}
use Rattle.incision_cell.specs.declared.Incision.{Incision}
use Rattle.lent_receivers.proofs.ReceiverLaws.{good_is}
use Rattle.incision_paths.specs.Settled.{made_along}
use Rattle.fluvial_erosion.specs.Incision.{incise_along, incised_by}
use Rattle.fluvial_erosion.specs.Along.{on_grid, Drains, Incised, Carved}
use Rattle.fluvial_erosion.specs.declared.FluvialParams.{FluvialParams}
use Rattle.fluvial_erosion.proofs.IndependenceLaws.{cut, cut_alike}

-- a grid's number of cells is a float
pub cells_float : {w h : ℕ} → InRange w h → T (in_float binary32 (pos (w * h)))
cells_float {w} {h} r = float_in (w * h) (cells_bound w h r.wide r.high)

module _ {w h : ℕ} {recv list : List ℕ} (drains : Drains w h recv list) where
  pub few_cells : w * h ≤ 2 ^ 24
  few_cells = cells_bound w h drains.sides.wide drains.sides.high

  receiver_near : (c : ℕ) → c < w * h → Near w c (get_or recv c 0)
  receiver_near c l = near_of (some_column w h c l) drains.sides.wide (good_is w h c (get_or recv c 0) (drains.near c l))

  pub steps_of : {n : ℕ} → n ≡ w * h → NearReceivers w n recv
  steps_of {n} e =
      record {
        wide = drains.sides.wide;
        few = omega (arith, few_cells);
        receivers = drains.along.receivers ∙ sym e;
        inside = λ c l. omega (arith, drains.along.inside c (omega arith));
        near = λ c l. receiver_near c (omega arith);
      }

  -- the words of its cells have steps
  pub network : {n : ℕ} → 3 ≤ w → n ≡ w * h → SteppedNetwork w recv n
  network wide e = record { columns = wide; steps = steps_of drains.along.receivers; long = e ∙ sym drains.along.receivers }

  -- what is made along the list by areas that are given is the incision of the definition
  pub made_incised : (p : FluvialParams) (ds : Distances) (areas hs : List Float) → length hs ≡ w * h → (base : ℕ → Bool)
      → made_along nan recv (cut_down (on_grid w h p ds) areas recv) list hs ≡ incise_along (ground_by w h ds base) p areas recv list hs
  made_incised p ds areas hs long base =
      cut_alike (ground_by w h ds base) p areas recv (cut_down (on_grid w h p ds) areas recv) hs hs long long alike list list drains.work drains.work
    where
      alike : (c : ℕ) (x : Float) → c < w * h → cut_down (on_grid w h p ds) areas recv c (get_or hs c nan) x ≡ cut (ground_by w h ds base) p areas recv c (get_or hs c nan) x
      alike c x l =
          ap
          (λ (d : Float). cut_of (get_or hs c nan) p.uplift p.water_level (incision_coef (get_or areas c nan) (on_grid w h p ds).cells p.k d) (drained_to c (get_or recv c 0) x p.water_level))
          (distance_by_cells ds w h base c l (get_or recv c 0) (good_is w h c (get_or recv c 0) (drains.near c l)))

  -- as the code comes to it: from a copy of the heights, by settings that it put together
  pub along_done : (p : FluvialParams) (ds : Distances) (areas hs : List Float) {by : Incision} {start out : List Float} → by ≡ on_grid w h p ds → length hs ≡ w * h → start ≡ hs → out ≡ made_along nan recv (cut_down by areas recv) list start
      → (base : ℕ → Bool) → out ≡ incise_along (ground_by w h ds base) p areas recv list hs
  along_done p ds areas hs e long s o base =
      o ∙ ap₂ (λ (b : Incision) (l : List Float). made_along nan recv (cut_down b areas recv) list l) e s ∙ made_incised p ds areas hs long base

-- an entry of the list is a cell of the slices
pub cell_of_lem : {n : ℕ} {recv list : List ℕ} {areas out : List Float} → Along n recv list → length areas ≡ n → length out ≡ n
    → (i : ℕ) → i < length list → CellOf areas recv out (get_or list i 0)
cell_of_lem {list = list} along a b i l =
    let c = along.entries i l in
    record { area = omega arith; receiver = omega (arith, along.receivers); result = omega arith; below = omega (arith, along.inside (get_or list i 0) c) }

-- the values once the first i entries are made: what is left to do from here is what there was to do
pub record Incising (make : ℕ → Float → Float → Float) (recv list : List ℕ) (start : List Float) (i : ℕ) (out : List Float) : Type 0 where
  pub place : i ≤ length list
  pub long : length out ≡ length start
  pub left : made_along nan recv make (drop i list) out ≡ made_along nan recv make list start

module _ {make : ℕ → Float → Float → Float} {recv list : List ℕ} {start : List Float} where
  pub incising_none : Incising make recv list start 0 start
  incising_none = record { place = omega arith; long = refl; left = refl }

  module _ {i : ℕ} {out : List Float} (s : Incising make recv list start i out) where
    pub incising_more : i < length list → {next : List Float}
        → next ≡ set out (get_or list i 0) (make (get_or list i 0) (get_or out (get_or list i 0) nan) (get_or out (get_or recv (get_or list i 0) 0) nan))
        → Incising make recv list start (i + 1) next
    unfolding made_along
    incising_more l {next} e =
        record {
          place = omega arith;
          long = ap length e ∙ length-set out (get_or list i 0) _ ∙ s.long;
          left =
              ap (λ (k : ℕ). made_along nan recv make (drop k list) next) (add-one i)
              ∙ ap (made_along nan recv make (drop (suc i) list)) e
              ∙ ap (λ (k : List ℕ). made_along nan recv make k out) (sym (drop-cons list i 0 l))
              ∙ s.left;
        }

    pub incising_done : length list ≤ i → out ≡ made_along nan recv make list start
    unfolding made_along
    incising_done l =
        let e : length list ≡ i = omega (arith, s.place) in
        ap (λ (k : List ℕ). made_along nan recv make k out) (sym (ap (λ (k : ℕ). drop k list) (sym e) ∙ drop-length list)) ∙ s.left

-- the areas and the incision along the list together
pub carved : {w h n : ℕ} {hs : List Float} {p : FluvialParams} {ds : Distances} {recv list : List ℕ} {areas area out : List Float} → n ≡ w * h → areas ≡ areas_along n recv list
    → Incised w h hs p ds areas recv list (record { out = out; area = area }) → Carved w h hs p ds recv list (record { out = out; area = area })
unfolding incised_by
carved {w} {h} {n} {hs} {p} {ds} {recv} {list} {areas} {area} {out} e a o =
    let along : areas ≡ areas_along (w * h) recv list = a ∙ ap (λ (k : ℕ). areas_along k recv list) e in
    record { heights = λ base. o.heights base ∙ ap (λ (l : List Float). incise_along (ground_by w h ds base) p l recv list hs) along; areas = o.still ∙ along }
