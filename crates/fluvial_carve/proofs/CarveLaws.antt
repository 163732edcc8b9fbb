-- A routing that is not refused gives what the incision after it asks, and both together are what `carve` promises.
use Rattle.std.specs.declared.result.Result.TheVariants.{Ok, Err}
use Rattle.answers.specs.declared.Refusal.{Refusal}
use Rattle.answers.proofs.OutcomeLaws.{refused_given}
use Rattle.answers.specs.Outcome.{Answer}
use Prim.Native.Nat.{ℕ, ◌*◌}
use mathlib.Core.Path.{◌≡◌, refl, sym, ap, ◌∙◌, subst}
use mathlib.Core.Bool.{Bool, true, false}
use mathlib.Core.List.{List}
use lib.ListN.{length}
use lib.Ieee.{Float}
use Rattle.float_order.specs.Fit.{Fit}
use Rattle.loops.proofs.TestLaws.{clash}
use Rattle.answers.specs.Outcome.{answer_of, given}
use Rattle.grid_spacing.specs.Distances.{square_distances}
use Rattle.grid_spacing.specs.declared.Distances.{Distances}
use Rattle.drainage.specs.Ground.{ground_by, grid_ground, square_land}
use Rattle.drainage.specs.declared.Land.{Land}
use Rattle.drainage.specs.Ways.{areas_along}
use Rattle.drainage.proofs.GroundLaws.{north_based}
use Rattle.flood.specs.Slices.{AcceptedGrid}
use Rattle.flow.specs.declared.Lent.{Lent}
use Rattle.flow.specs.Route.{NetSlices, lent_by, accepted, Enough, Holding, Routed}
use Rattle.flow.proofs.RouteLaws.{answered, accepted_enough, accepted_grid}
use Rattle.fluvial_erosion.specs.Incision.{incised_by}
use Rattle.fluvial_erosion.specs.Along.{Drains, Lengths, Carved}
use Rattle.fluvial_erosion.specs.declared.FluvialParams.{FluvialParams}
use Rattle.fluvial_carve.specs.Carve.{CarveMade}
use Rattle.fluvial_carve.proofs.RoutedLaws.{routing_drains}

module _ (w h : ℕ) (hs : List Float) (p : FluvialParams) (old : NetSlices) where
  abbrev water : Float
  water = p.water_level

  abbrev land : Land
  land = square_land water

  abbrev base : ℕ → Bool
  base = (grid_ground w h land hs).base

  abbrev lent : Lent
  lent = lent_by hs old

  module _ (r : Answer) {new : NetSlices} (e : Routed w h hs water old r new) where
    -- refused by the routing
    pub carve_refused : {why : Refusal} → r ≡ Err why → CarveMade w h hs p old (Err why) new
    carve_refused f =
        subst (λ (a : Answer). CarveMade w h hs p old a new) f
        (record { answer = e.answer; carved = λ y. absurd (clash y (answered w h hs water lent r e.answer ∙ refused_given f)); kept = e.kept })

    module _ (told : r ≡ Ok tt) where
      yes : accepted w h hs water lent ≡ true
      yes = answered w h hs water lent r e.answer ∙ ap (λ (a : Answer). given (answer_of a)) told

      grid : AcceptedGrid w h hs
      grid = accepted_grid w h hs water lent yes refl

      lengths : Enough (w * h) lent
      lengths = accepted_enough w h hs water lent yes

      holding : Holding w h hs land new.order new.recv new.spill new.area
      holding = e.routed yes

      -- the network found is one that an incision may go along, and every slice has the length that it asks for
      pub network_found : Fit hs → length new.recv ≡ length old.recv → Drains w h new.recv new.order
      network_found fit same =
          routing_drains w h hs land grid fit (north_based w h land hs grid.sides refl) holding (same ∙ lengths.receivers)

      pub lengths_found : length new.spill ≡ length old.spill → length new.area ≡ length old.area
          → Lengths (w * h) (length hs) (length new.spill) (length new.area)
      lengths_found a b = record { heights = grid.cells; result = a ∙ lengths.spill; areas = b ∙ lengths.areas }

      -- the incision along it
      pub carve_done :
          {ds : Distances} {cut drained : List Float} → ds ≡ square_distances → Carved w h hs p ds new.recv new.order (record { out = cut; area = drained })
          → CarveMade w h hs p old (Ok tt)
          (record { order = new.order; recv = new.recv; spill = cut; area = drained; queue = new.queue; status = new.status })
      carve_done d c = record {
        answer = ap answer_of (sym told) ∙ e.answer;
        carved = λ _. record {
          orders = holding.left;
          receivers = holding.received;
          heights = c.heights base ∙ (λ i. incised_by (ground_by w h (d i) base) p (holding.received i) (holding.left i) hs);
          areas = c.areas ∙ (λ i. areas_along (w * h) (holding.received i) (holding.left i));
        };
        kept = λ f. absurd (clash yes f);
      }
