-- Each call gives one u64: the refusal number × 2^32 plus, where that number is 0, the root's bits, width × 65,536 +
-- height, or 0.
use Rattle.std.specs.Prelude.{ℕ, ◌+◌, ◌*◌, ◌/◌, ◌%◌, ◌^◌, ◌≡◌, true, false, List, T, Float}
use Rattle.std.specs.Float.{binary32}
use Rattle.std.specs.Float.Ieee.{fits, to_bits}
use Rattle.answers.specs.Outcome.{Outcome, gives, refused, refused_at}
use Rattle.grid.specs.declared.Sides.{Sides}
use Rattle.square_root.specs.Root.{root_answer}
use Rattle.resample.specs.WorkSize.{work_answer}
use Rattle.stream.specs.Stream.{read_stream}

abbrev pub packed : ℕ → ℕ → ℕ
packed number value = number * 2 ^ 32 + value

-- document 01's number of an outcome, 0 where nothing is refused
abbrev pub number_from : {A : Type 0} → Outcome A → ℕ
number_from (gives a) = 0
number_from (refused n) = n
number_from (refused_at n p) = n

-- the value of an outcome: what `value` gives for a result, 0 for a refusal
abbrev pub value_from : {A : Type 0} → (A → ℕ) → Outcome A → ℕ
value_from value (gives a) = value a
value_from value (refused n) = 0
value_from value (refused_at n p) = 0

abbrev pub word_of : {A : Type 0} → (A → ℕ) → Outcome A → ℕ
word_of value answer = packed (number_from answer) (value_from value answer)

abbrev pub sides_value : Sides → ℕ
sides_value g = g.w * 65536 + g.h

abbrev pub root_word : Float → ℕ
root_word x = word_of (to_bits binary32) (root_answer x)

abbrev pub sides_word : ℕ → ℕ → ℕ → ℕ
sides_word w h res = word_of sides_value (work_answer w h res)

-- the reader with 9 left out
abbrev pub check_word : List ℕ → ℕ
check_word s = word_of (λ _. 0) (read_stream false s)

-- The number and the value can be read from the word: its high half is the number, its low half the value.
pub record Unpacks {A : Type 0} (value : A → ℕ) (answer : Outcome A) : Type 0 where
  pub number : word_of value answer / 2 ^ 32 ≡ number_from answer
  pub rest : word_of value answer % 2 ^ 32 ≡ value_from value answer

-- Unpacks is true of every word of the three calls; every operand is a binary32 value. Proved in proofs/HostLaws.antt.
pub record WordsUnpack : Type 0 where
  pub root : (x : Float) → T (fits binary32 x) → Unpacks (to_bits binary32) (root_answer x)
  pub sides : (w h res : ℕ) → Unpacks sides_value (work_answer w h res)
  pub check : (s : List ℕ) → Unpacks (λ _. 0) (read_stream false s)

-- 9 is left out and nothing else: a stream that the program does not refuse by 9 is read alike, and the check refuses
-- none by 9. Proved in proofs/HostLaws.antt.
pub record NineLeftOut (s : List ℕ) : Type 0 where
  pub alike : (read_stream true s ≡ refused 9 → ⊥) → read_stream true s ≡ read_stream false s
  pub never : read_stream false s ≡ refused 9 → ⊥
