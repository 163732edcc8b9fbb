-- The word of a refusal, whatever the results would be.
use Prim.Native.Nat.{ℕ, ◌+◌, ◌*◌, ◌%◌, ◌^◌}
use native.Mathlib.Omega.{arith}
use mathlib.Core.Path.{◌≡◌, refl, sym, ap, ◌∙◌}
use Rattle.std.specs.declared.result.Result.{Result}
use Rattle.std.specs.declared.result.Result.TheVariants.{Ok, Err}
use Rattle.std.specs.Result.{MatchResult, IsOkAnd}
use Rattle.answers.specs.Outcome.{Outcome, number_of, place_of, refusal_of, answer_of}
use Rattle.answers.specs.declared.Refusal.{Refusal}
use Rattle.answers.proofs.OutcomeLaws.{refusal_by_lem}
use Rattle.harness_calls.specs.Word.{export_word}

pub word_refused : {A : Type 0} (value : A → ℕ) (r : Refusal) → export_word value (refusal_of r) ≡ number_of r * 2 ^ 32 + place_of r % 2 ^ 32
word_refused {A} value = refusal_by_lem (λ o n p. export_word value (o A) ≡ n * 2 ^ 32 + p % 2 ^ 32) (λ n l. omega arith) (λ n p l. refl)

pub word_of_refusal :
    {A : Type 0} (value : A → ℕ) (answer : Outcome A) {word : ℕ} (r : Refusal)
    → refusal_of r ≡ answer → word ≡ number_of r * 2 ^ 32 + place_of r % 2 ^ 32 → word ≡ export_word value answer
word_of_refusal value answer r refuses packs = packs ∙ sym (word_refused value r) ∙ ap (export_word value) refuses

-- the word of an answer whose value was put in another's place, as bits of it
pub word_of_mapped :
    {A : Type 0} (value : A → ℕ) (a : Result A Refusal) (b : Result ℕ Refusal) {P : A → ℕ → Type 0}
    → MatchResult a (λ x. IsOkAnd b (P x)) (λ e. b ≡ Err e) → ((x : A) (v : ℕ) → P x v → v ≡ value x)
    → export_word (λ v. v) (answer_of b) ≡ export_word value (answer_of a)
word_of_mapped value (Ok x) (Ok v) m f = f x v m
word_of_mapped value (Ok x) (Err e) m f = absurd m
word_of_mapped value (Err e) b m f =
    ap (λ (r : Result ℕ Refusal). export_word (λ v. v) (answer_of r)) m ∙ word_refused (λ v. v) e ∙ sym (word_refused value e)
