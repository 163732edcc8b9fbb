-- The writer writes the bytes of the definition: of the run of an accepted stream, and of a refused stream.
use Rattle.std.specs.declared.result.Result.{Result}
use Rattle.std.specs.declared.result.Result.TheVariants.{Ok}
use Prim.Native.Nat.{ℕ, ◌+◌, ◌*◌, ◌≤◌}
use mathlib.Core.Path.{◌≡◌, refl, sym, ap, ap₂, subst, ◌∙◌}
use mathlib.Core.Bool.{Bool, true, false, not, ◌||◌, cond}
use mathlib.Core.List.{List, [], ◌++◌}
use native.Mathlib.Omega.{arith}
use borrow.Author.Tests.{ltb-false, eqb-true, eq-eqb}
use lib.Dec.{eqb, ltb}
use lib.ListN.{length, take, drop, length-append}
use lib.Seq.{length-take-le, take_at}
use lib.Ieee.{Float}
use Rattle.answers.specs.Outcome.{answer_of, Outcome, gives, refused, refusal_of, number_in}
use Rattle.answers.specs.declared.Refusal.{Refusal}
use Rattle.answers.proofs.OutcomeLaws.{refusal_by_lem, not_refused}
use Rattle.grid.specs.Sides.{bad_sides}
use Rattle.grid.proofs.SidesLaws.{in_range}
use Rattle.run_parts.specs.Ending.{Ending, outcome_of, ran_to, ended_with, refused_to}
use Rattle.answers.specs.declared.RunAnswer.{RunAnswer}
use Rattle.stream_rows.specs.Rows.{heights_at}
use Rattle.stream.specs.Stream.{Parsed, parsed_of, read_stream}
use Rattle.stream.specs.declared.Header.{Header}
use Rattle.stream_output.specs.Output.{grid_record, row_records, end_record, for_input, output_of, output_by, run_number, rows_length, written_of, left_of, Wrote}
use Rattle.stream_output.proofs.OutputLaws.{rows_length_lem}
use Rattle.stream_run.specs.StreamRun.{asked_run, output_from, relief_of, Relief}
use Rattle.stream_run.proofs.ReadLaws.{accepted_stream, refused_number}

number_in_lem : (n : ℕ) → number_in (outcome_of n) ≡ n
number_in_lem n = go (eqb n 0) refl
  where
    go : (b : Bool) → eqb n 0 ≡ b → number_in (cond b (gives tt) (refused n)) ≡ n
    go true e = sym (eqb-true n 0 e)
    go false e = refl

-- what fits is written, by the length of the output
abbrev fits : ℕ → List ℕ → Outcome ℕ
fits room bytes = cond (ltb room (length bytes)) (refused 3) (gives (length bytes))

module _ (w h : ℕ) (sides : bad_sides w h ≡ false) (map : List Float) (full : length map ≡ w * h) (number incisions passes questions room : ℕ) where
  whole_length : length (grid_record w h ++ (row_records map w h ++ end_record number incisions passes questions)) ≡ 22 + rows_length w h
  whole_length = omega (arith, rows_length_lem map w h, length-append (row_records map w h) (end_record number incisions passes questions))

  written_fits : written_of w h number (length map) room ≡ fits room (output_of w h number incisions passes questions map)
  unfolding written_of output_of
  written_fits = go (for_input number)
    where
      go : (b : Bool) → cond b (cond (ltb room 16) (refused 3) (gives 16))
          (cond (bad_sides w h) (refused 1) (cond (not (eqb (length map) (w * h)) || ltb room (22 + rows_length w h)) (refused 3) (gives (22 + rows_length w h))))
          ≡ cond (ltb room (length (cond b (end_record number 0 0 0) (grid_record w h ++ (row_records map w h ++ end_record number incisions passes questions))))) (refused 3)
          (gives (length (cond b (end_record number 0 0 0) (grid_record w h ++ (row_records map w h ++ end_record number incisions passes questions)))))
      go true = refl
      go false = rw (sides, eq-eqb (length map) (w * h) full, whole_length)

module _ (w h number incisions passes questions : ℕ) (map : List Float) (e : for_input number ≡ true) where
  input_fits : (room : ℕ) → written_of w h number (length map) room ≡ fits room (output_of w h number incisions passes questions map)
  unfolding written_of output_of
  input_fits room = rw e

  input_output : output_of w h number incisions passes questions map ≡ end_record number 0 0 0
  unfolding output_of
  input_output = rw e

relief_is : (s : List ℕ) {o : Outcome Parsed} → read_stream true s ≡ o → relief_of s ≡ output_from o
unfolding relief_of
relief_is s e = ap output_from e

-- a writer of the definition's bytes
module _ (s : List ℕ) (w h : ℕ) (map : List Float) (r : RunAnswer) (fit : (room : ℕ) → written_of w h (run_number r) (length map) room ≡ fits room (output_by w h r map))
    (same : output_by w h r map ≡ relief_of s) where
  answer_fits : (room : ℕ) → written_of w h (run_number r) (length map) room ≡ fits room (relief_of s)
  answer_fits room = fit room ∙ ap (fits room) same

  relief_by : {old : List ℕ} {answer : Result ℕ Refusal} {new : List ℕ} → Wrote w h map r old answer new → Relief s old answer new
  relief_by {old} {answer} {new} m =
      record {
        answers = m.answers ∙ answer_fits (length old);
        leaves = m.leaves ∙ ap₂ (λ (o : Outcome ℕ) (b : List ℕ). left_of o old b) (answer_fits (length old)) same;
      }

-- an accepted stream
module _ (s : List ℕ) (head : Header) (e : gives (parsed_of s head) ≡ read_stream true s) where
  -- its run, written
  module _ (r : RunAnswer) (map : List Float) (f : ended_with r map ≡ ran_to (asked_run head (heights_at s head.rows head.size.w head.size.h)))
      (full : length map ≡ head.size.w * head.size.h) where
    ran_number : run_number r ≡ (asked_run head (heights_at s head.rows head.size.w head.size.h)).number
    ran_number =
        ap (λ (x : Ending). number_in x.outcome) f ∙ number_in_lem (asked_run head (heights_at s head.rows head.size.w head.size.h)).number

    ran_output : output_by head.size.w head.size.h r map ≡ relief_of s
    ran_output =
        (λ i. output_of head.size.w head.size.h (ran_number i) (f i).incisions (f i).passes (f i).questions (f i).map)
        ∙ sym (relief_is s (sym e))

    ran_relief : {old : List ℕ} {answer : Result ℕ Refusal} {new : List ℕ} → Wrote head.size.w head.size.h map r old answer new → Relief s old answer new
    ran_relief =
        relief_by s head.size.w head.size.h map r
        (written_fits head.size.w head.size.h (in_range (accepted_stream s head e).framed.sides) map full (run_number r) r.incisions r.passes r.questions)
        ran_output

  -- the part of a longer map that is lent to it
  module _ (old : List Float) (room : 4096 ≡ length old) where
    pub part_length : length (take (head.size.w * head.size.h) old) ≡ head.size.w * head.size.h
    part_length = length-take-le (head.size.w * head.size.h) old (omega (arith, room, (accepted_stream s head e).few))

    module _ (part : List Float) (kept : length part ≡ length (take (head.size.w * head.size.h) old)) where
      pub part_again : head.size.w * head.size.h ≤ length (part ++ drop (head.size.w * head.size.h) old)
      part_again = omega (arith, kept, part_length, length-append part (drop (head.size.w * head.size.h) old))

      pub part_relief : (r : RunAnswer) → ended_with r part ≡ ran_to (asked_run head (heights_at s head.rows head.size.w head.size.h)) → {out : List ℕ} {answer : Result ℕ Refusal} {new : List ℕ}
          → Wrote head.size.w head.size.h (take (head.size.w * head.size.h) (part ++ drop (head.size.w * head.size.h) old)) r out answer new → Relief s out answer new
      part_relief r f {out} {answer} {new} m =
          ran_relief r part f (kept ∙ part_length)
          (subst (λ (l : List Float). Wrote head.size.w head.size.h l r out answer new)
          (take_at part (drop (head.size.w * head.size.h) old) (head.size.w * head.size.h) (kept ∙ part_length)) m)

-- a refused one
module _ (s : List ℕ) (why : Refusal) (e : read_stream true s ≡ refusal_of why) where
  end_alone : relief_of s ≡ end_record (number_in (refusal_of why)) 0 0 0
  end_alone = relief_is s e ∙ refusal_by_lem (λ o n p. output_from (o Parsed) ≡ end_record n 0 0 0) (λ n l. refl) (λ n p l. refl) why

  pub refusal_relief : {old : List ℕ} {answer : Result ℕ Refusal} {new : List ℕ} → Wrote 0 0 [] (refused_to why) old answer new → Relief s old answer new
  refusal_relief =
      relief_by s 0 0 [] (refused_to why) (input_fits 0 0 (number_in (refusal_of why)) 0 0 0 [] (refused_number s why e))
      (input_output 0 0 (number_in (refusal_of why)) 0 0 0 [] (refused_number s why e) ∙ sym end_alone)

-- what was written lies inside the slice
pub relief_inside : (s old : List ℕ) (n : ℕ) {answer : Result ℕ Refusal} {new : List ℕ} → Relief s old answer new → answer ≡ Ok n → n ≤ length old
relief_inside s old n {answer} m e =
    let a = not_refused (ltb (length old) (length (relief_of s))) (refused 3) (gives (length (relief_of s))) n refl (sym (ap answer_of (sym e) ∙ m.answers)) in
    let same : length (relief_of s) ≡ n = cc a.1 in
    omega (arith, same, ltb-false (length old) (length (relief_of s)) a.0)
