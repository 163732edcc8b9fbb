-- An answer in one u64: the refusal number × 2^32 plus the place that it carries, cut to 32 bits; where nothing is
-- refused, the result alone.
use Rattle.answers.specs.Outcome.{Answer}
use Rattle.std.specs.Prelude.{ℕ, ◌+◌, ◌*◌, ◌%◌, ◌^◌, ◌≡◌}
use Rattle.std.specs.Float.{binary32}
use Rattle.std.specs.Float.Ieee.{to_bits}
use Rattle.answers.specs.Outcome.{Outcome, gives, refused, refused_at, answer_of}
use Rattle.generators.specs.declared.MinMax.{MinMax}

abbrev pub export_word : {A : Type 0} → (A → ℕ) → Outcome A → ℕ
export_word value (gives a) = value a
export_word value (refused n) = n * 2 ^ 32
export_word value (refused_at n p) = n * 2 ^ 32 + p % 2 ^ 32

abbrev pub least_bits : MinMax → ℕ
least_bits m = to_bits binary32 m.min

abbrev pub greatest_bits : MinMax → ℕ
greatest_bits m = to_bits binary32 m.max

-- The exported function does what the public call does, and returns the word of that call's answer. `Made` is the
-- call's own promise as a property of its answer; that promise fixes the answer by an equation, and so the word.
pub record Exported (Made : Answer → Type 0) (word : ℕ) : Type 0 where
  pub answer : Answer
  pub made : Made answer
  pub worded : word ≡ export_word (λ _. 0) (answer_of answer)
