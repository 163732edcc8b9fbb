-- Every answer as documents 01 and 02 have it: what the call gives, or the number of a refusal with the cell or
-- position that it carries.
use Rattle.std.specs.declared.result.Result.{Result}
use Rattle.std.specs.declared.result.Result.TheVariants.{Ok, Err}
use Rattle.std.specs.Prelude.{ℕ, Bool, true, false, not, ◌&&◌, Float}
use Rattle.std.specs.Float.Ieee.{le}
use Rattle.answers.specs.declared.Refusal.{Refusal}
use Rattle.answers.specs.declared.Refusal.TheVariants.{Side, ReducedSide, Length, Setting, Height, Receiver, List, Stream, Cells, Stopped, RunOff, Row, Spacings, NoCell, NoBase, Metres, Tiles}

-- The outcome of a call that returns an A: `gives` a result; `refused` by a number alone; `refused_at` by a number that
-- carries a place.
pub data Outcome (A : Type 0) : Type 0 where
  gives : A → Outcome A
  refused : ℕ → Outcome A
  refused_at : ℕ → ℕ → Outcome A

-- the number of each refusal, with the place that it carries: document 01, 'Refused for the input' (1 to 9) and
-- 'Refused for the state' (21, 22); document 02, 'Answers': a row outside the named map (31), spacings other than 1 on
-- the way back (32), no such cell (33), no base cell (34), a height outside the metre range (35), tiles that overlap,
-- leave a gap or reach past the sheet (36)
abbrev pub refusal_of : {A : Type 0} → Refusal → Outcome A
refusal_of Side = refused 1
refusal_of ReducedSide = refused 2
refusal_of Length = refused 3
refusal_of Setting = refused 4
refusal_of (Height c) = refused_at 5 c
refusal_of (Receiver c) = refused_at 6 c
refusal_of (List p) = refused_at 7 p
refusal_of Stream = refused 8
refusal_of Cells = refused 9
refusal_of Stopped = refused 21
refusal_of RunOff = refused 22
refusal_of Row = refused 31
refusal_of Spacings = refused 32
refusal_of NoCell = refused 33
refusal_of NoBase = refused 34
refusal_of (Metres c) = refused_at 35 c
refusal_of Tiles = refused 36

-- whether an outcome is no refusal
abbrev pub given : {A : Type 0} → Outcome A → Bool
given (gives x) = true
given (refused n) = false
given (refused_at n c) = false

-- the number of a refusal, 0 for a result; `place_in`: the place that a refusal carries, 0 where there is none
abbrev pub number_in : Outcome (Unit {0}) → ℕ
number_in (gives a) = 0
number_in (refused n) = n
number_in (refused_at n p) = n

abbrev pub place_in : Outcome (Unit {0}) → ℕ
place_in (gives a) = 0
place_in (refused n) = 0
place_in (refused_at n p) = p

abbrev pub number_of : Refusal → ℕ
number_of r = number_in (refusal_of r)

abbrev pub place_of : Refusal → ℕ
place_of r = place_in (refusal_of r)

-- the answer of a call that gives no value of its own
abbrev pub Answer : Type 0
Answer = Result (Unit {0}) Refusal

-- the outcome of an answer: its value, or its refusal
abbrev pub answer_of : {A : Type 0} → Result A Refusal → Outcome A
answer_of (Ok x) = gives x
answer_of (Err r) = refusal_of r

-- x lies outside lo to hi; a NaN lies in no range
abbrev pub outside_of : Float → Float → Float → Bool
outside_of x lo hi = not (le lo x && le x hi)
