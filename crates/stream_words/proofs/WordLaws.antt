-- Words at a place, and loops that write them one behind the other.
use Prim.Native.Nat.{ℕ, zero, suc, ◌+◌, ◌*◌, ◌-◌, ◌^◌, ◌≤◌, ◌<◌, min}
use mathlib.Core.Path.{◌≡◌, refl, ap, ap₂, ◌∙◌}
use mathlib.Core.List.{List, ◌++◌}
use native.Mathlib.Omega.{arith}
use native.Mathlib.Decide.{dec_lt}
use borrow.Author.Tests.{lt-ltb}
use lib.ListN.{length, take, drop, length-append, length-drop}
use lib.Seq.{sets, length-take-le}
use Rattle.std.proofs.lemmas.List.{get_or-take, get_or-drop}
use Rattle.stream_bytes.specs.Bytes.{bytes4}
use Rattle.stream_bytes.proofs.PutLaws.{Putting, putting_none, putting_more}
use Rattle.stream_words.specs.Words.{word_at, word_in, word_bytes, fitting}

module _ (f : ℕ → ℕ) where
  pub words_length : (n : ℕ) → length (word_bytes n f) ≡ 4 * n
  unfolding word_bytes
  words_length zero = refl
  words_length (suc n) = length-append (word_bytes n f) (bytes4 (f n)) ∙ omega (arith, words_length n)

-- a loop that writes them
module _ (f : ℕ → ℕ) {old : List ℕ} {at n : ℕ} where
  pub words_none : Putting old at n (λ k. word_bytes k f) 0 old
  unfolding word_bytes
  words_none = putting_none refl

  pub words_more : {i : ℕ} {new : List ℕ} → Putting old at n (λ k. word_bytes k f) i new → i < n → {v j : ℕ} → v ≡ f i → j ≡ at + 4 * i → {b : List ℕ} → b ≡ sets new j (bytes4 v)
      → Putting old at n (λ k. word_bytes k f) (i + 1) b
  unfolding word_bytes
  words_more {i} {new} p l {v} {j} e k g =
      putting_more p l (bytes4 (f i)) refl (omega (arith, k, words_length f i)) (g ∙ ap (λ (x : ℕ). sets new j (bytes4 x)) e)

-- the words of a part of a list
words_same : {f g : ℕ → ℕ} (n : ℕ) → ((i : ℕ) → i < n → f i ≡ g i) → word_bytes n f ≡ word_bytes n g
unfolding word_bytes
words_same zero e = refl
words_same (suc n) e = ap₂ (λ (l : List ℕ) (x : ℕ). l ++ bytes4 x) (words_same n (λ i h. e i (omega arith))) (e n (omega arith))

module _ {A : Type 0} (word : A → ℕ) (past : A) (v : List A) where
  words_front : (n : ℕ) → n ≤ length v → {front : List A} → front ≡ take n v → word_bytes (length front) (word_in word past front) ≡ word_bytes n (word_in word past v)
  words_front n h {front} e =
      let whole : length front ≡ n = ap length e ∙ length-take-le n v h in
      ap₂ (λ (k : ℕ) (l : List A). word_bytes k (word_in word past l)) whole e ∙ words_same n (λ i l. ap word (get_or-take n v i past l))

  -- the words that fit, written to the front
  pub into : (old : List ℕ) {n : ℕ} {new : List ℕ} → n ≡ fitting v old → new ≡ sets old 0 (word_bytes (length (take n v)) (word_in word past (take n v))) → new ≡ sets old 0 (word_bytes (fitting v old) (word_in word past v))
  into old {n} e g = g ∙ ap (sets old 0) (words_front n (omega (arith, e)) refl ∙ ap (λ (k : ℕ). word_bytes k (word_in word past v)) e)

pub words_part : {A : Type 0} (word : A → ℕ) (past : A) (v : List A) (from n : ℕ) → from + n ≤ length v → {part : List A} → part ≡ take (from + n - from) (drop from v)
    → word_bytes (length part) (word_in word past part) ≡ word_bytes n (λ i. word_in word past v (from + i))
words_part {A} word past v from n h e =
    let long : length (drop from v) ≡ length v - from = length-drop from v in
    let same : from + n - from ≡ n = omega arith in
    words_front word past (drop from v) n (omega (arith, long)) (e ∙ ap (λ (k : ℕ). take k (drop from v)) same) ∙ words_same n (λ i l. ap word (get_or-drop from v i past))

-- past the last number no word is left, nor where the number was cut
pub word_past : (b : List ℕ) (i : ℕ) → length b < 2 ^ 63 → {at : ℕ} → at ≡ min (i * 4) (2 ^ 64 - 1) → word_at b at ≡ word_at b (4 * i)
word_past b i h {at} e = go (dec_lt (i * 4) (2 ^ 64))
  where
    go : Dec (i * 4 < 2 ^ 64) → word_at b at ≡ word_at b (4 * i)
    go (yes l) = ap (word_at b) (omega (arith, e))
    go (no l) = rw (lt-ltb (length b) (at + 4) (omega (arith, e)), lt-ltb (length b) (4 * i + 4) (omega arith))
