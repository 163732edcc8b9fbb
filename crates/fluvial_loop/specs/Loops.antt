-- The course of a plan, and what the talus passes of an iteration do to the map and to what the run has reached.
use Rattle.std.specs.Prelude.{ℕ, suc, ◌+◌, ◌*◌, ◌^◌, ◌≤◌, ◌<◌, ◌≡◌, cond, eqb}
use Rattle.loops.specs.Loops.{turns}
use Rattle.thermal_erosion.specs.SlidePass.{rows_of}
use Rattle.run_machine.specs.Plan.{Plan}
use Rattle.run_machine.specs.Machine.{Course}
use Rattle.run_machine.specs.Run.{ours, fluvial_course}
use Rattle.run_machine.specs.Nested.{Bounded}
use Rattle.run_parts.specs.Reached.{Reach, Worked, after_pass}
use Rattle.fluvial_loop.specs.declared.FluvialPlan.{FluvialPlan}

abbrev pub plan_of : FluvialPlan → Plan
plan_of p = record { iterations = p.iterations; passes = p.passes; cuts = p.cuts; slides = p.slides; land = p.land }

-- our run by a plan on a w × h working grid
abbrev pub course_by : ℕ → ℕ → FluvialPlan → ℕ → Course
course_by w h p stop = fluvial_course w h (plan_of p) stop ours

-- the map and the run after pass q of iteration it; a run that has ended stays as it is
abbrev pub passed_by : Course → ℕ → ℕ → Worked → Worked
passed_by c it q x =
    cond (eqb x.reached.number 0)
    (after_pass x.heights x.reached
    (rows_of c.w c.h c.thresholds c.strength c.water x.heights (c.begins it q) (c.begins it (suc q)) c.stop c.h x.reached.marks))
    x

-- the map and the run after the first n passes of iteration it
unfoldable pub slid_by : Course → ℕ → ℕ → Worked → Worked
unfolding turns
slid_by c it n x = turns n (passed_by c it) x

-- the numbers it and pass and the counts of the plan are at most 32,768, so that they are exact in binary32
pub record Places (p : FluvialPlan) (it pass : ℕ) : Type 0 where
  pub iteration : it ≤ 32768
  pub passed : pass ≤ 32768
  pub iterations : p.iterations ≤ 32768
  pub passes : p.passes ≤ 32768

-- what the passes of an iteration require of the lengths of the map and its copy, and of the counts before them
pub record Slides (c : Course) (it map copy : ℕ) (r : Reach) : Type 0 where
  pub bounded : Bounded c
  pub due : it < c.iterations
  pub heights : map ≡ c.w * c.h
  pub copied : copy ≡ map
  pub questions : r.marks.asked + c.passes * c.h < 2 ^ 32
  pub count : r.passes + c.passes < 2 ^ 32
