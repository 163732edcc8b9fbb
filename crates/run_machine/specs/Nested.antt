-- The run of Machine.antt as nested loops: iterations; in each its opening and its passes; in each pass all its rows.
-- Both forms end in the same state (`FinishedNested`) but for the row in which 21 or 22 ended the run, which is 0 here
-- (`dropped`).
use Rattle.std.specs.Prelude.{ℕ, suc, ◌+◌, ◌*◌, ◌^◌, ◌≤◌, ◌<◌, ◌≡◌, true, false, not, ◌&&◌, cond, List, eqb, Float}
use Rattle.loops.specs.Loops.{turns}
use Rattle.grid.specs.Heights.{all_finite}
use Rattle.thermal_erosion.specs.SlidePass.{Pass, rows_of}
use Rattle.run_machine.specs.Machine.{Course, State, pass_at, start, ended_by, open_step, closed, steps, finished}

module _ (c : Course) where
  -- the first n rows of the pass that a state is about to begin
  abbrev pub rows_from : ℕ → State → Pass
  rows_from n s =
      rows_of c.w c.h c.thresholds c.strength c.water s.heights (c.begins s.iteration s.pass)
      (c.begins s.iteration (suc s.pass)) c.stop n s.marks

  -- the state after the rows of a pass: a stop drops the pass, and finiteness is tested when it is complete
  abbrev pub pass_done : State → Pass → State
  pass_done s p =
      cond p.marks.stopped (ended_by c 21 p.marks s)
      (cond (all_finite p.out) (closed c p.out p.marks s) (ended_by c 22 p.marks s))

  -- the state after a whole pass; here and below, a run that has ended stays as it is
  unfoldable pub one_pass : State → State
  one_pass s = cond (eqb s.number 0) (pass_done s (rows_from c.h s)) s

  -- the question, routing and incision of an iteration, where the course has them
  unfoldable pub one_opening : State → State
  one_opening s = cond (c.cutting && eqb s.number 0) (open_step c s) s

  -- the opening of an iteration and n of its passes
  abbrev pub passes_after : ℕ → State → State
  passes_after n s = turns n (λ i. one_pass) (one_opening s)

  unfoldable pub one_iteration : State → State
  one_iteration s = passes_after c.passes s

  -- n iterations
  abbrev pub iterated : ℕ → List Float → State
  iterated n hs = turns n (λ i. one_iteration) (start c hs)

  -- the whole run
  abbrev pub nested : List Float → State
  nested hs = iterated c.iterations hs

-- the run has not ended and is due to begin iteration `it`, which fixes its counts
pub record Due (c : Course) (it : ℕ) (s : State) : Type 0 where
  pub number : s.number ≡ 0
  pub iteration : s.iteration ≡ it
  pub pass : s.pass ≡ 0
  pub opened : s.opened ≡ not c.cutting
  pub row : s.row ≡ 0
  pub copy : s.copy ≡ s.heights
  pub incisions : s.incisions ≡ cond c.cutting it 0
  pub passes : s.passes ≡ it * c.passes
  pub unstopped : s.marks.stopped ≡ false

-- the run has not ended and is due to begin pass q of iteration `it`, which has been opened; `it` and q fix its counts
pub record Underway (c : Course) (it q : ℕ) (s : State) : Type 0 where
  pub number : s.number ≡ 0
  pub iteration : s.iteration ≡ it
  pub pass : s.pass ≡ q
  pub opened : s.opened ≡ true
  pub row : s.row ≡ 0
  pub copy : s.copy ≡ s.heights
  pub incisions : s.incisions ≡ cond c.cutting (suc it) 0
  pub passes : s.passes ≡ it * c.passes + q
  pub unstopped : s.marks.stopped ≡ false

-- the bounds that the ranges of document 01 give a course: every count fits in 32 bits
pub record Bounded (c : Course) : Type 0 where
  pub columns : 1 ≤ c.w
  pub rows : 1 ≤ c.h
  pub wide : c.w ≤ 4096
  pub high : c.h ≤ 4096
  pub due : 1 ≤ c.iterations
  pub some : 1 ≤ c.passes
  pub iterations : c.iterations ≤ 32768
  pub passes : c.iterations * c.passes ≤ 32768
  pub steps : steps c < 2 ^ 28

-- a state whose row is set to 0 once the run has ended: no answer shows the row in which it ended
abbrev pub dropped : State → State
dropped s = pass_at s.copy (cond (eqb s.number 0) s.row 0) s.marks s.number s

-- The run step by step ends as the run by its loops, of any course with a row and a pass in each iteration.
abbrev pub FinishedNested : Type 0
FinishedNested = (c : Course) → 0 < c.h → 0 < c.passes → (hs : List Float) → dropped (finished c hs) ≡ nested c hs
