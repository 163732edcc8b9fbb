-- The word of a cell: its area × 16 plus the number of the step to its receiver. The slice of areas holds it as the
-- bits of a float.
use Rattle.std.specs.Prelude.{ℕ, ◌+◌, ◌-◌, ◌*◌, ◌/◌, ◌%◌, ◌^◌, ◌≤◌, ◌<◌, ◌≡◌, Bool, cond, List, [], ◌∷◌, length, get_or, set, replicate, eqb, Float}
use Rattle.std.specs.Float.{nan, binary32}
use Rattle.std.specs.Float.Ieee.{of_bits, to_bits}
use Rattle.loops.specs.Loops.{tabulate}
use Rattle.floats.specs.Stand.{whole}
use Rattle.receiver_steps.specs.Step.{step_of, stepped_to, NearReceivers}

abbrev pub area_word : ℕ → ℕ → ℕ
area_word area step = area * 16 + step

-- the area in a word
abbrev pub area_in : Float → Float
area_in x = whole (to_bits binary32 x / 16)

-- the areas in all words
unfoldable pub areas_in : List Float → List Float
unfolding tabulate
areas_in words = tabulate (length words) (λ c. area_in (get_or words c nan))

-- the receiver of cell c, by the step in its word
abbrev pub receiver_in : ℕ → ℕ → List Float → ℕ
receiver_in w c words = stepped_to w c (to_bits binary32 (get_or words c nan) % 16)

-- the words after the area of cell c is added to that of cell r, if r is another cell
abbrev pub passed_on : ℕ → ℕ → List Float → List Float
passed_on c r words =
    let word = to_bits binary32 (get_or words c nan) in
    cond (eqb r c) words (set words r (of_bits binary32 (to_bits binary32 (get_or words r nan) + (word - word % 16))))

-- the words after the areas of cells, the last cell first, are added to those of their receivers
unfoldable pub passed_back : List ℕ → List ℕ → List Float → List Float
passed_back recv [] words = words
passed_back recv (c ∷ cells) words = passed_on c (get_or recv c 0) (passed_back recv cells words)

-- a word with an area of at most 2 ^ 24
pub record Word (x : Float) : Type 0 where
  pub number : ℕ
  pub same : x ≡ of_bits binary32 number
  pub small : number < 2 ^ 28 + 16

abbrev pub Words : List Float → Type 0
Words words = (c : ℕ) → c < length words → Word (get_or words c nan)

-- recv are the receivers of a grid of w columns, three or more, and a slice of length `cells` has as many cells
pub record SteppedNetwork (w : ℕ) (recv : List ℕ) (cells : ℕ) : Type 0 where
  pub columns : 3 ≤ w
  pub steps : NearReceivers w (length recv) recv
  pub long : cells ≡ length recv

-- cell c and the receiver by the step in its word are both cells of the slice of words
pub record Passing (w : ℕ) (words : List Float) (c : ℕ) : Type 0 where
  pub wide : w ≤ 4096
  pub few : length words ≤ 4096 * 4096
  pub cell : c < length words
  pub all : Words words
  pub past : w + 1 ≤ c + to_bits binary32 (get_or words c nan) % 16 % 4 + to_bits binary32 (get_or words c nan) % 16 / 4 * w
  pub inside : receiver_in w c words < length words

-- the word of cell c, whose receiver is r
pub record WordFor (w c r : ℕ) (x : Float) : Type 0 where
  pub area : ℕ
  pub few : area ≤ 2 ^ 24
  pub same : x ≡ of_bits binary32 (area_word area (step_of w c r))

-- `words` are the words of all cells, each with the step to its receiver
pub record Worded (w : ℕ) (recv : List ℕ) (words : List Float) : Type 0 where
  pub long : length words ≡ length recv
  pub each : (c : ℕ) → c < length recv → WordFor w c (get_or recv c 0) (get_or words c nan)

-- `words` are the words of all cells, each with the step to its receiver, and their areas are `given`
pub record AreaWords (w : ℕ) (recv : List ℕ) (given words : List Float) : Type 0 where
  pub worded : Worded w recv words
  pub areas : areas_in words ≡ given

-- `area` is a whole number of at most 2 ^ 24, which binary32 holds exactly
pub record WholeArea (area : Float) : Type 0 where
  pub number : ℕ
  pub same : area ≡ whole number
  pub small : number ≤ 2 ^ 24

-- every area of the list is a whole number of at most 2 ^ 24
abbrev pub WholeAreas : List Float → Type 0
WholeAreas areas = (c : ℕ) → c < length areas → WholeArea (get_or areas c nan)

-- the area that a cell starts with: `area` where areas are given, else 1
abbrev pub start_area : Bool → Float → Float
start_area given area = cond given area (whole 1)

-- the areas that all cells start with: `areas` where they are given, else 1 for each
abbrev pub start_areas : Bool → List Float → List Float
start_areas given areas = cond given areas (replicate (length areas) (whole 1))

-- `below` has the receivers of the cells at positions lo to k - 1 of a list
pub record Ahead (recv list : List ℕ) (lo k : ℕ) (below : List ℕ) : Type 0 where
  pub order : lo ≤ k
  pub few : k ≤ lo + length below
  pub each : (j : ℕ) → lo ≤ j → j < k → get_or below (j - lo) 0 ≡ get_or recv (get_or list j 0) 0
