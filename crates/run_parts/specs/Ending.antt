-- What a whole-run call ends with: its answer in document 01's numbers, the counts, and the map.
use Rattle.std.specs.declared.result.Result.TheVariants.{Err}
use Rattle.std.specs.Prelude.{ℕ, ◌≡◌, cond, ◌⊎◌, List, eqb, Float}
use Rattle.answers.specs.Outcome.{Outcome, gives, refused, refused_at, answer_of}
use Rattle.answers.specs.declared.Refusal.{Refusal}
use Rattle.run_machine.specs.Run.{Ran}
use Rattle.answers.specs.declared.RunAnswer.{RunAnswer}
use Rattle.run_parts.specs.declared.End.{End}
use Rattle.run_parts.specs.declared.End.TheVariants.{Stopped, RunOff}
use Rattle.run_parts.specs.Reached.{Reach}

pub record Ending : Type 0 where
  pub outcome : Outcome (Unit {0})
  pub incisions : ℕ
  pub passes : ℕ
  pub questions : ℕ
  pub map : List Float

-- the outcome by the number that a run ended with; 0: the run is done
abbrev pub outcome_of : ℕ → Outcome (Unit {0})
outcome_of number = cond (eqb number 0) (gives tt) (refused number)

abbrev pub ran_to : Ran → Ending
ran_to ran =
    record { outcome = outcome_of ran.number; incisions = ran.incisions; passes = ran.passes; questions = ran.questions; map = ran.map }

-- a refused input: counts 0 and the map as it came; else the run's end
abbrev pub ending_of : Outcome (Unit {0}) → List Float → Ran → Ending
ending_of (gives _) map ran = ran_to ran
ending_of (refused number) map ran = record { outcome = refused number; incisions = 0; passes = 0; questions = 0; map = map }
ending_of (refused_at number place) map ran = record { outcome = refused_at number place; incisions = 0; passes = 0; questions = 0; map = map }

-- the ending that an answer r and the map after the call give
abbrev pub ended_with : RunAnswer → List Float → Ending
ended_with r map =
    record { outcome = answer_of r.answer; incisions = r.incisions; passes = r.passes; questions = r.questions; map = map }

abbrev pub refused_to : Refusal → RunAnswer
refused_to why = record { answer = Err why; incisions = 0; passes = 0; questions = 0 }

-- the numbers that a run ends with
abbrev pub Numbered : ℕ → Type 0
Numbered n = (n ≡ 0) ⊎ ((n ≡ 21) ⊎ (n ≡ 22))

-- the refusal that an end is answered with
abbrev pub refused_for : End → Refusal
refused_for Stopped = Refusal.Stopped
refused_for RunOff = Refusal.RunOff

-- the answer of what a run has reached
pub record Answered (r : Reach) (a : RunAnswer) : Type 0 where
  pub answer : answer_of a.answer ≡ outcome_of r.number
  pub incisions : a.incisions ≡ r.incisions
  pub passes : a.passes ≡ r.passes
  pub questions : a.questions ≡ r.marks.asked
