-- The word of a run's end, from its number and its place.
use Rattle.answers.specs.Outcome.{Answer}
use Prim.Native.Nat.{ℕ, ◌+◌, ◌*◌, ◌%◌, ◌^◌}
use mathlib.Core.Path.{◌≡◌, ap, ◌∙◌}
use Rattle.answers.specs.Outcome.{number_in, place_in, answer_of}
use Rattle.harness_runs.specs.Exported.{end_word}

pub end_word_lem :
    (a : Answer) (incisions passes questions : ℕ) {number place : ℕ}
    → number ≡ number_in (answer_of a) → place ≡ place_in (answer_of a)
    → (number % 2 ^ 16 * 2 ^ 16 + incisions % 2 ^ 16) * 2 ^ 32 + (place % 2 ^ 32 + (passes % 2 ^ 16 * 2 ^ 16 + questions % 2 ^ 16)) % 2 ^ 32
    ≡ end_word a incisions passes questions
end_word_lem a incisions passes questions {number} {place} numbered placed =
    ap (λ (n : ℕ). (n % 2 ^ 16 * 2 ^ 16 + incisions % 2 ^ 16) * 2 ^ 32 + (place % 2 ^ 32 + (passes % 2 ^ 16 * 2 ^ 16 + questions % 2 ^ 16)) % 2 ^ 32) numbered
    ∙ ap (λ (p : ℕ). (number_in (answer_of a) % 2 ^ 16 * 2 ^ 16 + incisions % 2 ^ 16) * 2 ^ 32 + (p % 2 ^ 32 + (passes % 2 ^ 16 * 2 ^ 16 + questions % 2 ^ 16)) % 2 ^ 32) placed
