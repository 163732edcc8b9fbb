-- From the calls' answers to their words.
use Prim.Native.Nat.{ℕ, ◌≤◌}
use native.Mathlib.Omega.{arith}
use mathlib.Core.Path.{◌≡◌, refl, sym, ap, subst, ◌∙◌}
use Rattle.answers.specs.Outcome.{Outcome, gives, refused, number_of, refusal_of}
use Rattle.answers.specs.declared.Refusal.{Refusal}
use Rattle.answers.proofs.OutcomeLaws.{refusal_by_lem, not_refused}
use Rattle.grid.specs.Sides.{bad_sides}
use Rattle.grid.specs.declared.Sides.{Sides}
use Rattle.resample.specs.WorkSize.{work_size, work_answer}
use Rattle.resample.proofs.WorkLaws.{work_within}
use Rattle.layout_calls.specs.Word.{packed, word_of}

-- the word of a refusal, whatever the results would be
pub word_refused : {A : Type 0} (value : A → ℕ) (r : Refusal) → word_of value (refusal_of r) ≡ packed (number_of r) 0
word_refused {A} value = refusal_by_lem (λ o n p. word_of value (o A) ≡ packed n 0) (λ n l. refl) (λ n p l. refl)

module _ {A : Type 0} (value : A → ℕ) (answer : Outcome A) {word : ℕ} where
  -- what a call that gives a result packs
  pub word_given : (a : A) {n : ℕ} → gives a ≡ answer → n ≡ value a → word ≡ packed 0 n → word ≡ word_of value answer
  word_given a {n} given e packs = packs ∙ ap (packed 0) e ∙ ap (word_of value) given

  -- and what one that refuses does
  pub word_of_refusal : (r : Refusal) → refusal_of r ≡ answer → word ≡ packed (number_of r) 0 → word ≡ word_of value answer
  word_of_refusal r refuses packs = packs ∙ sym (word_refused value r) ∙ ap (word_of value) refuses

-- working sides that are given lie in 1 to 4,096
pub sides_small : (w h res : ℕ) (g : Sides) → gives g ≡ work_answer w h res → (g.w ≤ 4096) × (g.h ≤ 4096)
sides_small w h res g given =
    let a = not_refused (bad_sides w h) (refused 1) (gives (work_size w h res)) g refl (sym given) in
    let n = work_within w h res a.0 in
    let same : work_size w h res ≡ g = cc a.1 in
    subst (λ (k : Sides). (k.w ≤ 4096) × (k.h ≤ 4096)) same (omega (arith, n.dw_high, n.wide), omega (arith, n.dh_high, n.high))
