-- A word is a number of four bytes, low byte first, as in document 01's stream; the word of a float is its bits, the word
-- of a cell the cell.
use Rattle.std.specs.Prelude.{ℕ, zero, suc, ◌+◌, ◌/◌, ◌≤◌, min, ◌≡◌, cond, List, [], ◌++◌, ltb, length, get_or, take, Float}
use Rattle.std.specs.Float.{nan, binary32}
use Rattle.std.specs.Float.Ieee.{to_bits}
use Rattle.stream_bytes.specs.Bytes.{number4, bytes4}

-- a list has n values at its front. The second fact follows from the first; taking the first n values of a slice
-- requires both
abbrev pub HasFront : {A : Type 0} → ℕ → List A → Type 0
HasFront n l = (n ≤ length l) × (n ≡ length (take n l))

-- the word at a place, 0 where the bytes have ended
abbrev pub word_at : List ℕ → ℕ → ℕ
word_at b at = cond (ltb (length b) (at + 4)) 0 (number4 b at)

-- the word of value i of a list, of the value `past` where the list has ended
abbrev pub word_in : {A : Type 0} → (A → ℕ) → A → List A → ℕ → ℕ
word_in word past v i = word (get_or v i past)

-- the bits of the i-th float from place `from` on
abbrev pub bits_at : List Float → ℕ → ℕ → ℕ
bits_at v from i = word_in (to_bits binary32) nan v (from + i)

-- the bytes of the first n words
unfoldable pub word_bytes : ℕ → (ℕ → ℕ) → List ℕ
word_bytes zero f = []
word_bytes (suc n) f = word_bytes n f ++ bytes4 (f n)

-- how many words of a list fit into the bytes
abbrev pub fitting : {A : Type 0} → List A → List ℕ → ℕ
fitting v b = min (length v) (length b / 4)
