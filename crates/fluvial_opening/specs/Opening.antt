-- What the opening of an iteration does to the map and to what the run has reached.
use Rattle.std.specs.Prelude.{ℕ, ◌+◌, ◌^◌, ◌<◌, ◌≡◌, List, Float}
use Rattle.generators.specs.Marks.{report_of}
use Rattle.drainage.specs.declared.Land.{Land}
use Rattle.fluvial_erosion.specs.declared.FluvialParams.{FluvialParams}
use Rattle.fluvial_carve.specs.Carve.{carved_of}
use Rattle.flow.specs.declared.Lent.{Lent}
use Rattle.flow.specs.Route.{lent_of}
use Rattle.fluvial_opening.specs.declared.Scratch.{Scratch}
use Rattle.run_parts.specs.Reached.{Reach, Worked, after_made}

-- the map and the run after the question at the fraction p and then the incision, which a stop or a height that is not
-- finite drops
abbrev pub after_opening : ℕ → ℕ → Land → FluvialParams → Float → ℕ → List Float → Reach → Worked
after_opening w h land params p stop hs r =
    let m = report_of r.marks p stop in
    after_made hs r m (carved_of w h land params hs) (record { marks = m; incisions = r.incisions + 1; passes = r.passes; number = 0 })

-- one more question and one more incision still fit in the counts of 32 bits
pub record Counts (r : Reach) : Type 0 where
  pub questions : r.marks.asked + 1 < 2 ^ 32
  pub incisions : r.incisions + 1 < 2 ^ 32

-- the lengths of the map and of the slices lent
abbrev pub lent_to : List Float → Scratch → Lent
lent_to hs s = lent_of hs s.order.now s.recv.now s.copy.now s.area.now s.queue.now s.status.now

-- the slices are the ones that were lent
pub record SameSlices (s s' : Scratch) : Type 0 where
  pub copy : s'.copy.ghost_name ≡ s.copy.ghost_name
  pub area : s'.area.ghost_name ≡ s.area.ghost_name
  pub order : s'.order.ghost_name ≡ s.order.ghost_name
  pub recv : s'.recv.ghost_name ≡ s.recv.ghost_name
  pub queue : s'.queue.ghost_name ≡ s.queue.ghost_name
  pub status : s'.status.ghost_name ≡ s.status.ghost_name
