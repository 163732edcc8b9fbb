-- A routing gives what the incision after it asks, and both together are the incision of the definition.
use Prim.Native.Nat.{ℕ, ◌*◌, ◌<◌}
use mathlib.Core.Path.{◌≡◌, refl, sym, ◌∙◌, subst}
use mathlib.Core.Bool.{true, false}
use mathlib.Core.Logic.{inl, inr}
use mathlib.Core.List.{List}
use native.Mathlib.Omega.{arith}
use lib.ListN.{length, get_or}
use lib.Ieee.{Float}
use Rattle.drainage.specs.Routing.{receivers_on}
use Rattle.float_order.specs.Fit.{Fit}
use Rattle.drainage.specs.Ground.{grid_ground, no_base}
use Rattle.drainage.specs.declared.Land.{Land}
use Rattle.drainage.specs.Ways.{areas_along}
use Rattle.areas.proofs.SumLaws.{along_of}
use Rattle.lent_receivers.specs.Receivers.{good_receiver}
use Rattle.lent_receivers.proofs.ReceiverLaws.{good_own, good_near}
use Rattle.flood.specs.Slices.{AcceptedGrid}
use Rattle.flow.specs.Route.{Holding}
use Rattle.flow.proofs.NetLaws.{receiver_near, downward}
use Rattle.fluvial_erosion.specs.Incision.{incise_along, incised_by}
use Rattle.fluvial_erosion.specs.Along.{Drains, Incised}
use Rattle.fluvial_erosion.specs.declared.FluvialParams.{FluvialParams}
use Rattle.fluvial_carve.specs.Carve.{Carves}

module _ (w h : ℕ) (hs : List Float) (land : Land) (a : AcceptedGrid w h hs) (fit : Fit hs) (some : no_base (grid_ground w h land hs) ≡ false) where
  near : (c : ℕ) → c < w * h → good_receiver w h c (get_or (receivers_on (grid_ground w h land) hs) c 0) ≡ true
  near c l = elim (receiver_near w h hs land a fit some c l) [
    | inl own ↦ good_own w h c _ (omega arith) own
    | inr other ↦ good_near w h c _ other
  ]

  -- receivers and order of a routing are a network that an incision may go along
  pub routing_drains : {order recv : List ℕ} {spill area : List Float} → Holding w h hs land order recv spill area → length recv ≡ w * h → Drains w h recv order
  routing_drains {order} {recv} r long =
      let d = downward w h hs land a fit some (w * h) recv order refl long r.received r.left in
      record {
        sides = a.sides;
        along = along_of d.0 d.1;
        near = λ c l. subst (λ (t : List ℕ). good_receiver w h c (get_or t c 0) ≡ true) (sym r.received) (near c l);
        work = d.1;
      }

-- the areas of a routing are those along its order
pub routed_areas : {w h : ℕ} {hs : List Float} {land : Land} {order recv : List ℕ} {spill area : List Float} → Holding w h hs land order recv spill area
    → area ≡ areas_along (w * h) recv order
routed_areas {w} {h} r = r.drained ∙ (λ i. areas_along (w * h) (sym r.received i) (sym r.left i))

-- the routing, and the incision by the areas that it left
pub carves : (w h : ℕ) (land : Land) (p : FluvialParams) (hs : List Float) {order recv : List ℕ} {spill area out still : List Float}
    → Holding w h hs land order recv spill area → Incised w h hs p land.distances area recv order (record { out = out; area = still })
    → Carves w h land p hs order recv out still
unfolding incised_by
carves w h land p hs r o = record {
  orders = r.left;
  receivers = r.received;
  heights =
      o.heights (grid_ground w h land hs).base
      ∙ (λ i. incise_along (grid_ground w h land hs) p (r.drained i) (r.received i) (r.left i) hs);
  areas = o.still ∙ r.drained;
}
