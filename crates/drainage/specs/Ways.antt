-- Ways down, drainage areas and work lists, of any receivers.
use Rattle.std.specs.Prelude.{ℕ, zero, suc, ◌≤◌, ◌<◌, ◌≡◌, Bool, false, ◌||◌, cond, List, [], ◌∷◌, ◌++◌, get_or, set, replicate, eqb, Float}
use Rattle.std.specs.Float.{nan, binary32}
use Rattle.std.specs.Float.Ieee.{of_bits, add}
use Rattle.loops.specs.Counts.{times, count_below}

-- A work list: every cell once, each after any other cell it drains into.
pub record WorkList (n : ℕ) (recv : List ℕ) (list : List ℕ) : Type 0 where
  pub once : (c : ℕ) → c < n → times c list ≡ 1
  pub only : (c : ℕ) → n ≤ c → times c list ≡ 0
  pub after : (before : List ℕ) (c : ℕ) (rest : List ℕ) → list ≡ before ++ (c ∷ rest) → (get_or recv c 0 ≡ c → ⊥) → 0 < times (get_or recv c 0) before

-- the k-th cell on the way down from c: c itself, its receiver, and so on
unfoldable pub down : List ℕ → ℕ → ℕ → ℕ
down recv zero c = c
down recv (suc k) c = get_or recv (down recv k c) 0

-- whether c stands among the first k cells on the way down from j
unfoldable pub passes : List ℕ → ℕ → ℕ → ℕ → Bool
unfolding down
passes recv zero j c = false
passes recv (suc k) j c = eqb (down recv k j) c || passes recv k j c

-- drainage area: the number of cells whose way down passes through c; the first n cells of a way down are all of it
unfoldable pub area_of : ℕ → List ℕ → ℕ → ℕ
unfolding passes count_below
area_of n recv c = count_below n (λ j. passes recv n j c)

-- a cell's area added to its receiver's, if that is another cell
abbrev pub added_down : ℕ → ℕ → List Float → List Float
added_down c r a = cond (eqb r c) a (set a r (add binary32 (get_or a r nan) (get_or a c nan)))

-- Areas as floats along a list: every cell starts with 1, and backward along the list each cell's area is added to its
-- receiver's, if that is another cell.
unfoldable pub areas_along : ℕ → List ℕ → List ℕ → List Float
areas_along n recv [] = replicate n (of_bits binary32 0x3f80_0000)
areas_along n recv (c ∷ rest) = added_down c (get_or recv c 0) (areas_along n recv rest)
