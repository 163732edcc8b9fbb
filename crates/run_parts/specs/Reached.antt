-- Which parts of a run's state the map and the structs Reached and Ended hold, and what the shared parts of a run do to
-- them.
use Rattle.std.specs.declared.result.Result.{Result}
use Rattle.std.specs.declared.result.Result.TheVariants.{Ok, Err}
use Rattle.std.specs.Prelude.{ℕ, ◌+◌, ◌^◌, ◌<◌, ◌≡◌, Bool, ◌&&◌, cond, List, eqb, Float}
use Rattle.grid.specs.Heights.{all_finite}
use Rattle.generators.specs.Marks.{fresh}
use Rattle.generators.specs.declared.Progress.{Progress}
use Rattle.thermal_erosion.specs.SlidePass.{Pass, RowsReady}
use Rattle.resample.specs.Blocks.{downsampled}
use Rattle.upsample.specs.Samples.{as_source, added_of}
use Rattle.run_machine.specs.Machine.{Course, State}
use Rattle.run_machine.specs.Run.{difference_of}
use Rattle.run_machine.specs.Nested.{nested}
use Rattle.run_parts.specs.declared.Reached.{Reached}
use Rattle.run_parts.specs.declared.End.{End}
use Rattle.run_parts.specs.declared.End.TheVariants.{Stopped, RunOff}
use Rattle.run_parts.specs.declared.Ended.{Ended}

-- what a run has reached besides its heights: the stop marks, the completed incisions and passes, and 0, or the number
-- that ended it
pub record Reach : Type 0 where
  pub marks : Progress
  pub incisions : ℕ
  pub passes : ℕ
  pub number : ℕ

abbrev pub number_of_end : End → ℕ
number_of_end Stopped = 21
number_of_end RunOff = 22

abbrev pub numbered : ℕ → Reached → Reach
numbered number r = record { marks = r.marks; incisions = r.incisions; passes = r.passes; number = number }

-- what the structs say: of a run that goes on, of one that has ended, and of either
abbrev pub going : Reached → Reach
going r = numbered 0 r

abbrev pub gone : Ended → Reach
gone e = numbered (number_of_end e.end) e.reached

abbrev pub reach_of : Result Reached Ended → Reach
reach_of (Ok r) = going r
reach_of (Err e) = gone e

-- the working map and what the run has reached besides
pub record Worked : Type 0 where
  pub heights : List Float
  pub reached : Reach

-- those that the code has
abbrev pub worked_of : List Float → Result Reached Ended → Worked
worked_of hs r = record { heights = hs; reached = reach_of r }

-- what a run has reached in a state; with the heights this is all of the state that an answer shows
abbrev pub reached_in : State → Reach
reached_in s = record { marks = s.marks; incisions = s.incisions; passes = s.passes; number = s.number }

abbrev pub seen : State → Worked
seen s = record { heights = s.heights; reached = reached_in s }

abbrev pub begun : Reach
begun = record { marks = fresh; incisions = 0; passes = 0; number = 0 }

-- what a run has reached once `number` ended it, with the record m; the counts stay
abbrev pub halted : ℕ → Progress → Reach → Reach
halted number m r = record { marks = m; incisions = r.incisions; passes = r.passes; number = number }

-- What follows an incision or a pass that computed the heights `new`: a stop drops it, and so does a height that is not
-- finite; else it is completed
abbrev pub after_made : List Float → Reach → Progress → List Float → Reach → Worked
after_made hs r m new completed =
    cond m.stopped (record { heights = hs; reached = halted 21 m r })
    (cond (all_finite new) (record { heights = new; reached = completed }) (record { heights = hs; reached = halted 22 m r }))

abbrev pub after_pass : List Float → Reach → Pass → Worked
after_pass hs r p =
    after_made hs r p.marks p.out (record { marks = p.marks; incisions = r.incisions; passes = r.passes + 1; number = 0 })

-- what a pass requires of its grid, the lengths of the map and its copy, and the counts before it
pub record PassReady (w h map copy : ℕ) (r : Reach) : Type 0 where
  pub ready : RowsReady w h map copy r.marks.asked
  pub count : r.passes + 1 < 2 ^ 32

-- what the pass p leaves: x is the map and the run after it, completed or dropped, and `copy` holds the heights of the
-- pass in either case
pub record PassRun (hs : List Float) (r : Reach) (p : Pass) (x : Worked) (copy : List Float) : Type 0 where
  pub held : x ≡ after_pass hs r p
  pub copied : copy ≡ p.out

-- small and eroded both hold the block averages of the map, and `finite` says whether all of them are finite
pub record Reduced (w h dw dh : ℕ) (map : List Float) (finite : Bool) (small eroded : List Float) : Type 0 where
  pub averages : small ≡ downsampled map w h dw dh
  pub started : eroded ≡ downsampled map w h dw dh
  pub finites : finite ≡ all_finite (downsampled map w h dw dh)

-- the map and the run after the difference of the reduced grids is added to the map; 22 leaves the map as it came
abbrev pub added_to : ℕ → ℕ → ℕ → ℕ → List Float → List Float → List Float → Reach → Worked
added_to w h dw dh map small eroded r =
    let delta = difference_of eroded small in
    let sum = added_of as_source map w h delta dw dh in
    cond (all_finite delta && all_finite sum) (record { heights = sum; reached = halted 0 r.marks r })
    (record { heights = map; reached = halted 22 r.marks r })

-- A whole run by its nested loops: on the map itself where the working sides are the map's, else on its block averages.
-- There, averages that are not finite end it by 22 before its first question, and 21 and 22 leave the map as it came;
-- else the difference is added to the map.
unfoldable pub whole_run : ℕ → ℕ → Course → List Float → Worked
whole_run w h c map =
    let small = downsampled map w h c.w c.h in
    let s = nested c small in
    cond (eqb c.w w && eqb c.h h) (seen (nested c map))
    (cond (all_finite small)
    (cond (eqb s.number 0) (added_to w h c.w c.h map small s.heights (reached_in s)) (record { heights = map; reached = reached_in s }))
    (record { heights = map; reached = halted 22 fresh begun }))
