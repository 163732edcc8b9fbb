-- Document 01, 'Stop marks': a question is asked when p - last ≥ 0.01; last then becomes p; the S-th question asked
-- gets yes, 0 means never; a stopped record asks none and stays stopped.
use Rattle.std.specs.declared.result.Result.{Result}
use Rattle.std.specs.declared.result.Result.TheVariants.{Ok, Err}
use Rattle.answers.specs.declared.Refusal.{Refusal}
use Rattle.std.specs.Prelude.{ℕ, ◌+◌, ◌^◌, ◌≡◌, Bool, true, false, not, ◌||◌, cond, eqb, ltb, Float}
use Rattle.std.specs.Float.{binary32}
use Rattle.std.specs.Float.Ieee.{of_bits, neg, sub, le}
use Rattle.answers.specs.Outcome.{Outcome, gives, refused, refusal_of, outside_of}
use Rattle.generators.specs.declared.Progress.{Progress}
use Rattle.generators.specs.declared.Go.{Go}
use Rattle.generators.specs.declared.Reported.{Reported}

-- a whole run begins with this record
abbrev pub fresh : Progress
fresh = record { last = neg (of_bits binary32 0x3f80_0000); asked = 0; stopped = false }

-- p - last ≥ 0.01
abbrev pub asks : Progress → Float → Bool
asks m p = le (of_bits binary32 0x3c23_d70a) (sub binary32 p m.last)

-- the record after a report of p under the stop number s
unfoldable pub report_of : Progress → Float → ℕ → Progress
report_of m p s =
    cond m.stopped m (cond (asks m p) (record { last = p; asked = m.asked + 1; stopped = eqb (m.asked + 1) s }) m)

-- refusal 4: p outside 0 to 1, last outside -1 to 1, more than 2^31 questions asked
abbrev pub bad_report : Progress → Float → Bool
bad_report m p =
    outside_of p (of_bits binary32 0) (of_bits binary32 0x3f80_0000)
    || (outside_of m.last (neg (of_bits binary32 0x3f80_0000)) (of_bits binary32 0x3f80_0000) || ltb (2 ^ 31) m.asked)

abbrev pub go_of : Result Go Refusal → Outcome Bool
go_of (Ok Go.On) = gives true
go_of (Ok Go.Stop) = gives false
go_of (Err r) = refusal_of r

-- the answer of a report: whether to go on, or 4
abbrev pub report_answer : Progress → Float → ℕ → Outcome Bool
report_answer m p s = cond (bad_report m p) (refused 4) (gives (not (report_of m p s).stopped))

-- the record that a report hands back; on a refusal it is m as given
abbrev pub report_record : Progress → Float → ℕ → Progress
report_record m p s = cond (bad_report m p) m (report_of m p s)

-- r holds the answer and the record of a report of p, from the record m under the stop number s
pub record ReportMade (m : Progress) (p : Float) (s : ℕ) (r : Reported) : Type 0 where
  pub answer : go_of r.go ≡ report_answer m p s
  pub handed : r.progress ≡ report_record m p s
