-- A stream is a list of bytes. Numbers stand low byte first, records begin with a mark of two bytes.
use Rattle.std.specs.Prelude.{ℕ, ◌+◌, ◌*◌, ◌/◌, ◌%◌, Bool, true, false, ◌&&◌, List, [], ◌∷◌, ◌++◌, get_or, take, drop, eqb, Float}
use Rattle.std.specs.Float.{binary32}
use Rattle.std.specs.Float.Ieee.{of_bits}

-- the number of the two bytes at a place, and of the four bytes there
unfoldable pub number2 : List ℕ → ℕ → ℕ
number2 s at = get_or s at 0 + get_or s (at + 1) 0 * 256

unfoldable pub number4 : List ℕ → ℕ → ℕ
unfolding number2
number4 s at = number2 s at + number2 s (at + 2) * 65536

-- the float whose bits are the four bytes at a place
abbrev pub float4 : List ℕ → ℕ → Float
float4 s at = of_bits binary32 (number4 s at)

-- a number in two bytes, and in four
abbrev pub bytes2 : ℕ → List ℕ
bytes2 n = n % 256 ∷ n / 256 % 256 ∷ []

abbrev pub bytes4 : ℕ → List ℕ
bytes4 n = bytes2 n ++ bytes2 (n / 65536)

-- 47 52: a grid; 46 4C: a fluvial run; 54 48: a thermal run; 52 57: a row; 45 4E: the end
abbrev pub grid_mark : List ℕ
grid_mark = 0x47 ∷ 0x52 ∷ []

abbrev pub fluvial_mark : List ℕ
fluvial_mark = 0x46 ∷ 0x4c ∷ []

abbrev pub thermal_mark : List ℕ
thermal_mark = 0x54 ∷ 0x48 ∷ []

abbrev pub row_mark : List ℕ
row_mark = 0x52 ∷ 0x57 ∷ []

abbrev pub end_mark : List ℕ
end_mark = 0x45 ∷ 0x4e ∷ []

unfoldable pub same : List ℕ → List ℕ → Bool
same [] [] = true
same [] (y ∷ ys) = false
same (x ∷ xs) [] = false
same (x ∷ xs) (y ∷ ys) = eqb x y && same xs ys

-- the mark of a record that begins at a place: fewer than two bytes where the stream ends
abbrev pub mark_at : List ℕ → ℕ → List ℕ
mark_at s at = take 2 (drop at s)

abbrev pub marked : List ℕ → ℕ → List ℕ → Bool
marked s at mark = same (mark_at s at) mark
