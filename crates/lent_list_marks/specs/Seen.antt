-- Which cells of a segment stood already: one mark for each cell, in a byte of its own or 64 to a word.
use Rattle.std.specs.Prelude.{ℕ, ◌-◌, ◌*◌, ◌/◌, ◌%◌, ◌^◌, ◌≤◌, ◌≡◌, Bool, not, ◌&&◌, List, length, get_or, set, replicate, eqb, ltb}
use Rattle.std.specs.Int.Bits.{bit_or}

-- the number of cells from the start of one segment to the start of the next, where a list is read more than once
abbrev pub segment : ℕ
segment = 8388608

-- the number of cells of one segment: segments overlap, so that a cell and its receiver both lie in one of them
abbrev pub span : ℕ
span = 8396800

-- place i is marked, where `seen` has 64 marks to a word
unfoldable pub is_marked : List ℕ → ℕ → Bool
is_marked seen i = eqb (get_or seen (i / 64) 0 / 2 ^ (i % 64) % 2) 1

unfoldable pub marking : List ℕ → ℕ → List ℕ
marking seen i = set seen (i / 64) (bit_or (get_or seen (i / 64) 0) (2 ^ (i % 64)))

-- place i is marked in its own byte
abbrev pub is_set : List ℕ → ℕ → Bool
is_set seen i = eqb (get_or seen i 0) 1

-- c lies in a segment of `long` cells from cell lo on
abbrev pub in_segment : ℕ → ℕ → ℕ → Bool
in_segment long lo c = not (ltb c lo) && ltb (c - lo) long

-- r lies in the segment and has not stood yet
abbrev pub missing_in : List ℕ → ℕ → ℕ → Bool
missing_in seen lo r = in_segment span lo r && not (is_marked seen (r - lo))

-- no mark is set in the words `seen`, and they have one for each of n cells
pub record Clear (n : ℕ) (seen : List ℕ) : Type 0 where
  pub none : seen ≡ replicate (length seen) 0
  pub enough : n ≤ length seen * 64

-- no mark is set in the bytes `seen`, and there is one for each of n cells
pub record Blank (n : ℕ) (seen : List ℕ) : Type 0 where
  pub none : seen ≡ replicate (length seen) 0
  pub enough : n ≤ length seen
