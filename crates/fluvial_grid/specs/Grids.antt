-- What a fluvial run requires of the map, the plan and the scratch slices, on the map or on a reduced grid.
use Rattle.std.specs.Prelude.{ℕ, ◌*◌, ◌≤◌, ◌≡◌, true, List, length, Float}
use Rattle.grid.specs.Heights.{all_finite}
use Rattle.grid.specs.Base.{all_open}
use Rattle.resample.specs.WorkSize.{Within}
use Rattle.run_machine.specs.Nested.{Bounded}
use Rattle.fluvial_loop.specs.Loops.{course_by}
use Rattle.fluvial_loop.specs.declared.FluvialPlan.{FluvialPlan}

-- the lengths of the scratch slices
pub record Scratch : Type 0 where
  pub small : ℕ
  pub eroded : ℕ
  pub copy : ℕ
  pub area : ℕ
  pub order : ℕ
  pub recv : ℕ
  pub queue : ℕ
  pub status : ℕ

abbrev pub scratch_of : List Float → List Float → List Float → List Float → List ℕ → List ℕ → List ℕ → List ℕ → Scratch
scratch_of small eroded copy area order recv queue status =
    record {
      small = length small;
      eroded = length eroded;
      copy = length copy;
      area = length area;
      order = length order;
      recv = length recv;
      queue = length queue;
      status = length status;
    }

-- what a run on its dw × dh working grid requires: a finite map, and averages and scratch of as many cells as that
-- grid, queue and status of at least as many
pub record Erodes (w h dw dh : ℕ) (plan : FluvialPlan) (stop : ℕ) (map : List Float) (s : Scratch) : Type 0 where
  pub sides : Within w h dw dh
  pub bounded : Bounded (course_by dw dh plan stop)
  pub sides_open : plan.land.sides ≡ all_open
  pub heights : length map ≡ w * h
  pub finites : all_finite map ≡ true
  pub small : s.small ≡ dw * dh
  pub eroded : s.eroded ≡ dw * dh
  pub copy : s.copy ≡ dw * dh
  pub area : s.area ≡ dw * dh
  pub order : s.order ≡ dw * dh
  pub recv : s.recv ≡ dw * dh
  pub queue : dw * dh ≤ s.queue
  pub status : dw * dh ≤ s.status
