-- Document 01, 'The stream': the run that a stream asks for, and the bytes that `relief` writes.
use Rattle.std.specs.declared.result.Result.{Result}
use Rattle.answers.specs.declared.Refusal.{Refusal}
use Rattle.std.specs.Prelude.{ℕ, ◌*◌, ◌≤◌, ◌<◌, ◌≡◌, true, false, cond, List, length, take, ltb, Float}
use Rattle.answers.specs.Outcome.{answer_of, Outcome, gives, refused, refused_at}
use Rattle.run_machine.specs.Run.{Ran, ours, run_by, thermal_run}
use Rattle.grid.specs.Heights.{all_finite}
use Rattle.stream_rows.specs.Rows.{heights_at, Framed}
use Rattle.stream.specs.Stream.{Parsed, bad_settings, read_stream}
use Rattle.stream.specs.declared.Settings.{Settings}
use Rattle.stream.specs.declared.Settings.TheVariants.{Fluvial, Thermal}
use Rattle.stream.specs.declared.Header.{Header}
use Rattle.stream_output.specs.Output.{output_of, end_record, left_of}

-- the whole run of document 01 by the settings of a stream
abbrev pub run_of : Settings → ℕ → ℕ → ℕ → List Float → Ran
run_of (Fluvial s) w h stop map = run_by w h s stop ours map
run_of (Thermal s) w h stop map = thermal_run w h s stop map

abbrev pub asked_run : Header → List Float → Ran
asked_run head map = run_of head.settings head.size.w head.size.h head.stop map

-- what is known of a stream that is accepted, with its header
pub record AcceptedStream (s : List ℕ) (head : Header) : Type 0 where
  pub framed : Framed s head.rows head.size.w head.size.h
  pub few : head.size.w * head.size.h ≤ 4096
  pub settings : bad_settings head.settings ≡ false
  pub finites : all_finite (heights_at s head.rows head.size.w head.size.h) ≡ true

-- The output by what reading the input gave: the grid record, the rows and the end; on 1 to 9 the end alone.
abbrev pub output_from : Outcome Parsed → List ℕ
output_from (gives p) =
    let ran = asked_run p.header p.heights in
    output_of p.header.size.w p.header.size.h ran.number ran.incisions ran.passes ran.questions ran.map
output_from (refused number) = end_record number 0 0 0
output_from (refused_at number place) = end_record number 0 0 0

unfoldable pub relief_of : List ℕ → List ℕ
unfolding read_stream
relief_of s = output_from (read_stream true s)

-- what `relief` answers and leaves: 3 for a slice shorter than the output, which stays as it was; else the length of
-- the output, with the output in the slice and bytes beyond it as they were
abbrev pub relief_written : List ℕ → ℕ → Outcome ℕ
relief_written s room = cond (ltb room (length (relief_of s))) (refused 3) (gives (length (relief_of s)))

pub record Relief (s old : List ℕ) (answer : Result ℕ Refusal) (new : List ℕ) : Type 0 where
  pub answers : answer_of answer ≡ relief_written s (length old)
  pub leaves : new ≡ left_of (relief_written s (length old)) old (relief_of s)

-- No accepted stream has more than 24,612 bytes, so the first 24,613 bytes of a longer input decide its output: it gets
-- the refusal of the whole input.
abbrev pub LongInput : Type 0
LongInput = (s : List ℕ) → 24612 < length s → relief_of (take 24613 s) ≡ relief_of s
