-- What an exported whole run promises: it leaves what the public call leaves, and gives that call's answer in one u64.
use Rattle.answers.specs.Outcome.{Answer}
use Rattle.std.specs.Prelude.{ℕ, ◌+◌, ◌*◌, ◌%◌, ◌^◌, ◌≡◌}
use Rattle.answers.specs.Outcome.{number_in, place_in, answer_of}
use Rattle.answers.specs.declared.RunAnswer.{RunAnswer}

-- From the top, 16 bits each: document 01's number, 0 if nothing is refused, then the incisions, passes and questions.
-- A refusal that carries a place has no counts, so its place stands in the low 32 bits.
abbrev pub end_word : Answer → ℕ → ℕ → ℕ → ℕ
end_word a incisions passes questions =
    (number_in (answer_of a) % 2 ^ 16 * 2 ^ 16 + incisions % 2 ^ 16) * 2 ^ 32
    + (place_in (answer_of a) % 2 ^ 32 + (passes % 2 ^ 16 * 2 ^ 16 + questions % 2 ^ 16)) % 2 ^ 32

-- `word` is that of the public call's answer. `Ran` is the call's own promise as a property of its answer; that promise
-- fixes the answer by an equation, and so the word.
pub record ExportedRun (Ran : RunAnswer → Type 0) (word : ℕ) : Type 0 where
  pub answer : RunAnswer
  pub ran : Ran answer
  pub worded : word ≡ end_word answer.answer answer.incisions answer.passes answer.questions
