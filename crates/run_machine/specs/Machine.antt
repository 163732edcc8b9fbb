-- A run on its working grid as the iteration of one step on a state. A step is the question, routing and incision that
-- open an iteration, or one row of a talus pass with its question; the last row of a pass also completes the pass. So a
-- run may be interrupted after any step and continued from there.
use Rattle.std.specs.Prelude.{ℕ, suc, ◌*◌, List, eqb, leb, ltb, Float}
use mathlib.Core.Bool.{Bool, not, ◌||◌, cond}
use Rattle.loops.specs.Loops.{turns}
use Rattle.grid.specs.Heights.{all_finite}
use Rattle.generators.specs.Marks.{fresh, report_of}
use Rattle.generators.specs.declared.Progress.{Progress}
use Rattle.talus.specs.Talus.{slide_row}
use Rattle.thermal_erosion.specs.SlidePass.{fraction_of}

-- What a run is to do on its w × h working grid.
pub record Course : Type 0 where
  pub w : ℕ
  pub h : ℕ
  pub iterations : ℕ
  -- talus passes in each iteration
  pub passes : ℕ
  -- whether an iteration opens with a question, routing and incision
  pub cutting : Bool
  -- the heights after the incision of an iteration, by its number and the heights that it routes
  pub incision : ℕ → List Float → List Float
  -- the fraction p of the opening question of an iteration
  pub opening : ℕ → Float
  -- the fraction p at which a pass of an iteration begins, by the numbers of both; it ends where the next would begin
  pub begins : ℕ → ℕ → Float
  -- the thresholds of the directions, the strength and the water level of the passes
  pub thresholds : List Float
  pub strength : Float
  pub water : Float
  -- the stop number
  pub stop : ℕ

pub record State : Type 0 where
  -- the heights of the last completed incision or pass
  pub heights : List Float
  -- the pass under way: its copy, with the rows done so far, and its next row
  pub copy : List Float
  pub row : ℕ
  pub marks : Progress
  -- completed incisions and passes
  pub incisions : ℕ
  pub passes : ℕ
  -- the iteration and the pass under way, and whether that iteration has been opened
  pub iteration : ℕ
  pub pass : ℕ
  pub opened : Bool
  -- 0 while the run goes on; 21 or 22 once that ended it
  pub number : ℕ

-- a state with another copy and row of its pass, another record and another number; the completed heights and the
-- counts stay
abbrev pub pass_at : List Float → ℕ → Progress → ℕ → State → State
pass_at copy row m number s =
    record {
      heights = s.heights;
      copy = copy;
      row = row;
      marks = m;
      incisions = s.incisions;
      passes = s.passes;
      iteration = s.iteration;
      pass = s.pass;
      opened = s.opened;
      number = number;
    }

module _ (c : Course) where
  abbrev pub start : List Float → State
  start hs =
      record {
        heights = hs;
        copy = hs;
        row = 0;
        marks = fresh;
        incisions = 0;
        passes = 0;
        iteration = 0;
        pass = 0;
        opened = not c.cutting;
        number = 0;
      }

  -- the run ended by 21 or 22: what the step computed is dropped, the record is the one reached
  abbrev pub ended_by : ℕ → Progress → State → State
  ended_by number m s = pass_at s.heights s.row m number s

  -- an incision is completed
  abbrev pub cut : List Float → Progress → State → State
  cut new m s =
      record {
        heights = new;
        copy = new;
        row = 0;
        marks = m;
        incisions = suc s.incisions;
        passes = s.passes;
        iteration = s.iteration;
        pass = 0;
        opened = mathlib.Core.Bool.true;
        number = 0;
      }

  -- the question before routing; then routing and incision
  abbrev pub open_step : State → State
  open_step s =
      let m = report_of s.marks (c.opening s.iteration) c.stop in
      let new = c.incision s.iteration s.heights in
      cond m.stopped (ended_by 21 m s) (cond (all_finite new) (cut new m s) (ended_by 22 m s))

  -- a row is done and is not the last
  abbrev pub slid : List Float → Progress → State → State
  slid copy m s = pass_at copy (suc s.row) m 0 s

  -- a pass is completed; after the last one of an iteration the next iteration is due
  abbrev pub closed : List Float → Progress → State → State
  closed copy m s =
      let last = leb c.passes (suc s.pass) in
      record {
        heights = copy;
        copy = copy;
        row = 0;
        marks = m;
        incisions = s.incisions;
        passes = suc s.passes;
        iteration = cond last (suc s.iteration) s.iteration;
        pass = cond last 0 (suc s.pass);
        opened = cond last (not c.cutting) s.opened;
        number = 0;
      }

  -- one row and its question; a stop in the last row drops the pass, and finiteness is tested when the pass is complete
  abbrev pub row_step : State → State
  row_step s =
      let copy = slide_row c.w c.h c.thresholds s.heights c.strength c.water s.row s.copy in
      let m =
      report_of s.marks
      (fraction_of (c.begins s.iteration s.pass) (c.begins s.iteration (suc s.pass)) c.h s.row)
      c.stop in
      cond m.stopped (ended_by 21 m s)
      (cond (ltb (suc s.row) c.h) (slid copy m s) (cond (all_finite copy) (closed copy m s) (ended_by 22 m s)))

  -- one step; a run that has ended, or has no iteration left, stays
  unfoldable pub step : State → State
  step s =
      cond (not (eqb s.number 0) || leb c.iterations s.iteration) s (cond s.opened (row_step s) (open_step s))

  unfoldable pub after : ℕ → List Float → State
  unfolding turns step
  after n hs = turns n (λ i. step) (start hs)

  -- as many steps as a whole run takes; fewer are needed where no question, routing and incision open an iteration
  abbrev pub steps : ℕ
  steps = c.iterations * suc (c.passes * c.h)

  abbrev pub finished : List Float → State
  finished hs = after steps hs
