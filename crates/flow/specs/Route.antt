-- `route` of document 01, 'Network': flood, receivers, areas of a grid, with its refusals.
use Rattle.answers.specs.Outcome.{Answer}
use Rattle.std.specs.Prelude.{ℕ, ◌*◌, ◌≤◌, ◌≡◌, Bool, true, false, not, ◌||◌, cond, List, length, eqb, ltb, Float}
use Rattle.std.specs.Float.Ieee.Scale.{finite}
use Rattle.drainage.specs.Routing.{order_on, receivers_on, spill_on, areas_on}
use Rattle.answers.specs.Outcome.{Outcome, gives, refused, refused_at, given, answer_of}
use Rattle.grid.specs.Sides.{bad_sides}
use Rattle.grid.specs.Heights.{first_not_finite, all_finite}
use Rattle.drainage.specs.Ground.{grid_ground, square_land}
use Rattle.drainage.specs.declared.Land.{Land}
use Rattle.flow.specs.declared.Lent.{Lent}

-- The lengths of the slices lent to `route`: heights and results hold exactly the grid's cells, scratch at least as
-- many.
abbrev pub lent_of : List Float → List ℕ → List ℕ → List Float → List Float → List ℕ → List ℕ → Lent
lent_of hs order recv spill area queue status =
    record {
      heights = length hs;
      order = length order;
      receivers = length recv;
      spill = length spill;
      areas = length area;
      queue = length queue;
      status = length status;
    }

abbrev pub bad_net_lengths : ℕ → Lent → Bool
bad_net_lengths n l =
    not (eqb l.heights n)
    || (not (eqb l.order n) || (not (eqb l.receivers n) || (not (eqb l.spill n) || (not (eqb l.areas n) || (ltb l.queue n || ltb l.status n)))))

-- the answer of `route`: refused by 1: a side; 3: a length; 4: the water level; 5: a height, with the first cell whose
-- height is not finite
abbrev pub route_answer : ℕ → ℕ → List Float → Float → Lent → Outcome (Unit {0})
route_answer w h hs water l =
    cond (bad_sides w h) (refused 1)
    (cond (bad_net_lengths (w * h) l) (refused 3) (cond (finite water) (cond (all_finite hs) (gives tt) (refused_at 5 (first_not_finite hs))) (refused 4)))

-- whether the call is accepted
abbrev pub accepted : ℕ → ℕ → List Float → Float → Lent → Bool
accepted w h hs water l = given (route_answer w h hs water l)

-- the lengths l are not refused on n cells: heights and results exactly n, scratch at least n
pub record Enough (n : ℕ) (l : Lent) : Type 0 where
  pub heights : l.heights ≡ n
  pub order : l.order ≡ n
  pub receivers : l.receivers ≡ n
  pub spill : l.spill ≡ n
  pub areas : l.areas ≡ n
  pub queue : n ≤ l.queue
  pub status : n ≤ l.status

-- the result slices hold a whole routing
pub record Holding (w h : ℕ) (hs : List Float) (land : Land) (order recv : List ℕ) (spill area : List Float) : Type 0 where
  pub left : order ≡ order_on (grid_ground w h land) hs
  pub received : recv ≡ receivers_on (grid_ground w h land) hs
  pub raised : spill ≡ spill_on (grid_ground w h land) hs
  pub drained : area ≡ areas_on (grid_ground w h land) hs

-- The slices lent to `route` besides the heights: order, receivers, spill heights and areas are results, queue and
-- statuses are scratch.
pub record NetSlices : Type 0 where
  pub order : List ℕ
  pub recv : List ℕ
  pub spill : List Float
  pub area : List Float
  pub queue : List ℕ
  pub status : List ℕ

abbrev pub lent_by : List Float → NetSlices → Lent
lent_by hs s = lent_of hs s.order s.recv s.spill s.area s.queue s.status

-- What `route` answers and leaves: accepted, the four results hold the routing on document 01's land; refused, every
-- slice is as it was, scratch included.
pub record Routed (w h : ℕ) (hs : List Float) (water : Float) (old : NetSlices) (r : Answer) (new : NetSlices) : Type 0 where
  pub answer : answer_of r ≡ route_answer w h hs water (lent_by hs old)
  pub routed : accepted w h hs water (lent_by hs old) ≡ true
      → Holding w h hs (square_land water) new.order new.recv new.spill new.area
  pub kept : accepted w h hs water (lent_by hs old) ≡ false → new ≡ old
