-- A routing and the incision along the network that it found.
use Rattle.answers.specs.Outcome.{Answer}
use Rattle.std.specs.Prelude.{ℕ, ◌≡◌, true, false, List, Float}
use Rattle.drainage.specs.Routing.{order_on, receivers_on, areas_on}
use Rattle.answers.specs.Outcome.{answer_of}
use Rattle.drainage.specs.Ground.{grid_ground, square_land}
use Rattle.drainage.specs.declared.Land.{Land}
use Rattle.flow.specs.Route.{NetSlices, lent_by, route_answer, accepted}
use Rattle.fluvial_erosion.specs.Incision.{incised_by}
use Rattle.fluvial_erosion.specs.declared.FluvialParams.{FluvialParams}

-- the heights hs, incised along their own network on a land
abbrev pub carved_of : ℕ → ℕ → Land → FluvialParams → List Float → List Float
carved_of w h land p hs = incised_by (grid_ground w h land hs) p (receivers_on (grid_ground w h land) hs) (order_on (grid_ground w h land) hs) hs

-- what `carve_grid` leaves: the network, and the heights incised along it
pub record Carves (w h : ℕ) (land : Land) (p : FluvialParams) (hs : List Float) (order recv : List ℕ) (out area : List Float) : Type 0 where
  pub orders : order ≡ order_on (grid_ground w h land) hs
  pub receivers : recv ≡ receivers_on (grid_ground w h land) hs
  pub heights : out ≡ carved_of w h land p hs
  pub areas : area ≡ areas_on (grid_ground w h land) hs

-- What `carve` answers and leaves: accepted as `route` is, the network on document 01's land in order, receivers and
-- areas, and the heights incised along it in the place of the spill heights; refused, every slice is as it was, scratch
-- included. k, uplift and a result that is not finite are not tested.
pub record CarveMade (w h : ℕ) (hs : List Float) (p : FluvialParams) (old : NetSlices) (r : Answer) (new : NetSlices) : Type 0 where
  pub answer : answer_of r ≡ route_answer w h hs p.water_level (lent_by hs old)
  pub carved : accepted w h hs p.water_level (lent_by hs old) ≡ true
      → Carves w h (square_land p.water_level) p hs new.order new.recv new.spill new.area
  pub kept : accepted w h hs p.water_level (lent_by hs old) ≡ false → new ≡ old
