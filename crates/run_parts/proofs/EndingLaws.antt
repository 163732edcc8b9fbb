-- The endings of a whole-run call.
use Rattle.std.specs.declared.result.Result.TheVariants.{Ok, Err}
use Prim.Native.Nat.{ℕ}
use Rattle.answers.specs.Outcome.{Answer}
use mathlib.Core.Path.{◌≡◌, refl, sym, ap, ◌∙◌}
use mathlib.Core.Bool.{false}
use mathlib.Core.List.{List}
use lib.Ieee.{Float}
use Rattle.loops.proofs.TestLaws.{clash}
use Rattle.answers.specs.Outcome.{Outcome, gives, refused, refusal_of, answer_of, given}
use Rattle.answers.specs.declared.Refusal.{Refusal}
use Rattle.answers.proofs.OutcomeLaws.{refusal_by_lem}
use Rattle.run_machine.specs.Run.{Ran}
use Rattle.run_parts.specs.Reached.{Reach, Worked}
use Rattle.run_parts.specs.Ending.{Ending, ran_to, ending_of, ended_with, refused_to, Answered}
use Rattle.answers.specs.declared.RunAnswer.{RunAnswer}
use Rattle.run_parts.proofs.ReachedLaws.{worked}

-- an input that is refused
abbrev refused_with : Outcome (Unit {0}) → List Float → Ending
refused_with o map = record { outcome = o; incisions = 0; passes = 0; questions = 0; map = map }

refused_by : (why : Refusal) (map : List Float) (ran : Ran) → ended_with (refused_to why) map ≡ ending_of (refusal_of why) map ran
refused_by why map ran = refusal_by_lem (λ o n p. refused_with (o (Unit {0})) map ≡ ending_of (o (Unit {0})) map ran) (λ n l. refl) (λ n p l. refl) why

pub ending_refused : (why : Refusal) (early : Answer) (o : Outcome (Unit {0})) (map : List Float) (ran : Ran) {r : RunAnswer}
    → early ≡ Err why
    → answer_of early ≡ o
    → r ≡ refused_to why
    → ended_with r map ≡ ending_of o map ran
ending_refused why early o map ran e f g = ap (λ (r : RunAnswer). ended_with r map) g ∙ refused_by why map ran ∙ ap (λ (o : Outcome (Unit {0})). ending_of o map ran) (ap answer_of (sym e) ∙ f)

-- an input that is accepted
pub done_accepts : {early : Answer} {o : Outcome (Unit {0})} → answer_of early ≡ o → early ≡ Ok tt → o ≡ gives tt
done_accepts f e = sym f ∙ ap answer_of e

-- so what is kept where one is refused need not be
pub done_keeps : {early : Answer} {o : Outcome (Unit {0})} → answer_of early ≡ o → early ≡ Ok tt → {A : Type 0} {x y : A} → given o ≡ false → x ≡ y
done_keeps f e z = absurd (clash (ap given (done_accepts f e)) z)

-- what an answer shows of a run's end: of the record only the questions
abbrev pub ran_by : Worked → Ran
ran_by x =
    record { number = x.reached.number; incisions = x.reached.incisions; passes = x.reached.passes; questions = x.reached.marks.asked; map = x.heights }

-- a run that was accepted
pub ending_ran : (r : Reach) (a : RunAnswer) (o : Outcome (Unit {0})) (old map : List Float) (ran : Ran)
    → Answered r a
    → ran_by (worked map r) ≡ ran
    → o ≡ gives tt
    → ended_with a map ≡ ending_of o old ran
ending_ran r a o old map ran m e f =
    (λ i. record { outcome = m.answer i; incisions = m.incisions i; passes = m.passes i; questions = m.questions i; map = map })
    ∙ ap ran_to e ∙ ap (λ (o : Outcome (Unit {0})). ending_of o old ran) (sym f)
