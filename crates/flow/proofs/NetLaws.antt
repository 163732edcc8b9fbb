-- What the theory of the flood gives the passes after it: discoverers are neighbours, receivers are cells, and the order is a list of cells.
use Prim.Native.Nat.{ℕ, ◌*◌, ◌<◌}
use mathlib.Core.Path.{◌≡◌, refl, sym, ap₂, ◌∙◌, subst}
use mathlib.Core.Bool.{Bool, true, false}
use mathlib.Core.Logic.{◌⊎◌, inl, inr}
use mathlib.Core.List.{List}
use native.Mathlib.Omega.{arith}
use lib.ListN.{length, get_or, take}
use lib.Seq.{length-take-le}
use lib.Ieee.{Float}
use Rattle.drainage.specs.Routing.{order_on, receivers_on}
use Rattle.float_order.specs.Order.{rank}
use Rattle.float_order.specs.Fit.{Fit}
use Rattle.grid.specs.Directions.{Adjacent}
use Rattle.grid.proofs.SidesLaws.{cells_bound}
use Rattle.drainage.specs.Ground.{Ground, floats, ground_by, grid_ground, no_base}
use Rattle.drainage.specs.declared.Land.{Land}
use Rattle.drainage.specs.Flood.{flooded}
use Rattle.drainage.specs.Receivers.{receivers}
use Rattle.drainage.specs.Ways.{WorkList, areas_along}
use Rattle.drainage.specs.Theorems.{Network}
use Rattle.drainage.specs.Grids.{Height}
use Rattle.loops.proofs.TestLaws.{same_or_not}
use Rattle.drainage.proofs.InvariantLaws.{Flooding}
use Rattle.drainage.proofs.StateLaws.{Stands, height_of, view_of}
use Rattle.drainage.proofs.GroundLaws.{to_adjacent, grid_networks, grid_stands, grid_left}
use Rattle.flood_start.specs.Slices.{Sizes}
use Rattle.flood.specs.Slices.{AcceptedGrid, Flooded}
use Rattle.receiver.specs.Passes.{Discoverers}
use Rattle.receiver.proofs.ReceiverLaws.{near_inside}
use Rattle.receiver_steps.specs.Step.{Near, NearReceivers}
use Rattle.receiver_steps.proofs.PlaceLaws.{near_of}
use Rattle.flow.specs.Route.{lent_of, Enough, Holding}

module _ (w h : ℕ) (hs : List Float) (land : Land) (a : AcceptedGrid w h hs) (fit : Fit hs) (some : no_base (grid_ground w h land hs) ≡ false) where
  abbrev ground : Ground
  ground = grid_ground w h land hs

  stands : Stands floats ground hs Height rank (w * h) (flooded floats ground hs)
  stands = grid_stands w h land hs a.sides a.cells fit a.finites some (w * h) (omega arith)

  discoverer_near : (c : ℕ) → c < w * h → (get_or (flooded floats (grid_ground w h land hs) hs).discoverer c 0 ≡ c → ⊥) → Adjacent w h c (get_or (flooded floats (grid_ground w h land hs) hs).discoverer c 0)
  discoverer_near c l d = go (ground.base c) refl
    where
      flooding : Flooding ground (height_of floats ground hs Height rank) (view_of floats ground hs Height rank (flooded floats ground hs)) stands.leaver 8
      flooding = stands.holds.flooding

      go : (b : Bool) → ground.base c ≡ b → Adjacent w h c (get_or (flooded floats (grid_ground w h land hs) hs).discoverer c 0)
      go true e = absurd (d (flooding.base_discoverer c l e))
      go false e = to_adjacent w h _ _ (flooding.found c l (omega (arith, grid_left w h land hs a.sides a.cells fit a.finites some c l)) e).near

  pub discoverers : (recv : List ℕ) → recv ≡ (flooded floats (grid_ground w h land hs) hs).discoverer → Discoverers w h recv
  discoverers recv e = record { near = λ c l. subst (λ t. (get_or t c 0 ≡ c → ⊥) → Adjacent w h c (get_or t c 0)) (sym e) (discoverer_near c l) }

  net : Network floats ground hs rank
  net = grid_networks w h land hs a.sides a.cells fit a.finites some

  -- receivers are the cells themselves or neighbours
  pub receiver_near : (c : ℕ) → c < w * h → (get_or (receivers_on (grid_ground w h land) hs) c 0 ≡ c) ⊎ Adjacent w h c (get_or (receivers_on (grid_ground w h land) hs) c 0)
  receiver_near c l = elim (same_or_not (get_or (receivers_on (grid_ground w h land) hs) c 0) c) [
    | inl own ↦ inl own
    | inr other ↦ inr (to_adjacent w h _ _ (net.adjacent c l other))
  ]

  -- and the order is a work list of them
  pub downward :
      (n : ℕ) (recv order : List ℕ) → n ≡ w * h → length recv ≡ w * h → recv ≡ receivers_on (grid_ground w h land) hs → order ≡ order_on (grid_ground w h land) hs → NearReceivers w n recv × WorkList n recv order
  downward n recv order m long e f = (
    record {
      wide = a.sides.wide;
      few = omega (arith, cells_bound w h a.sides.wide a.sides.high);
      receivers = omega arith;
      inside = λ c l. subst (λ (t : List ℕ). get_or t c 0 < n) (sym e) (rw m (near_inside w h c _ (omega arith) (receiver_near c (omega arith))));
      near = λ c l. subst (λ (t : List ℕ). Near w c (get_or t c 0)) (sym e) (near_of a.sides.columns a.sides.wide (receiver_near c (omega arith)));
    },
    rw (m, e, f) net.work_list,
  )

-- the sizes that the flood asks for, with as many statuses as cells
pub sizes_of :
    (w h : ℕ) (hs : List Float) (order recv : List ℕ) (spill area : List Float) (queue status : List ℕ) → AcceptedGrid w h hs
    → Enough (w * h) (lent_of hs order recv spill area queue status) → Sizes (w * h) hs (take (length hs) status) spill recv queue
sizes_of w h hs order recv spill area queue status a e = record {
  few = cells_bound w h a.sides.wide a.sides.high;
  heights = a.cells;
  statuses = length-take-le (length hs) status (omega (arith, e.status, a.cells)) ∙ a.cells;
  spills = e.spill;
  discoverers = e.receivers;
  room = e.queue;
}

-- flood, receivers and areas one after the other are the routing
module _ (w h : ℕ) (hs : List Float) (land : Land) (order found : List ℕ) (spill : List Float) (f : Flooded w h land hs order found spill) (recv : List ℕ)
    (r : (base : ℕ → Bool) → recv ≡ receivers floats (ground_by w h land.distances base) spill found) where
  pub received_is : recv ≡ receivers_on (grid_ground w h land) hs
  received_is = r (grid_ground w h land hs).base ∙ ap₂ (receivers floats (grid_ground w h land hs)) f.raised f.found

  pub holding : (n : ℕ) (area : List Float) → n ≡ w * h → area ≡ areas_along n recv order → Holding w h hs land order recv spill area
  holding n area m e = record {
    left = f.left;
    received = received_is;
    raised = f.raised;
    drained = e ∙ (λ i. areas_along (m i) (received_is i) (f.left i));
  }
