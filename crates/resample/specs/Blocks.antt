-- `downsample`: the average of each block of cells. Column x of a side lies in block x × reduced / side, cut to a whole
-- number, so block b has the columns from `first_in_block` of b to below `first_in_block` of b + 1 (`SourceBlocks`); its sum
-- starts at +0 and adds the block's cells in number order.
use Rattle.answers.specs.Outcome.{Answer}
use Rattle.std.specs.Prelude.{ℕ, zero, suc, ◌+◌, ◌-◌, ◌*◌, ◌/◌, ◌%◌, ◌≤◌, ◌<◌, ◌≡◌, Bool, not, ◌||◌, cond, List, length, get_or, eqb, ltb, Float}
use Rattle.std.specs.Float.{nan, binary32}
use Rattle.std.specs.Float.Ieee.{of_bits, add, div}
use Rattle.answers.specs.Outcome.{Outcome, gives, refused, refused_at, answer_of}
use Rattle.floats.specs.Stand.{whole}
use Rattle.float_order.specs.Fit.{Fit}
use Rattle.loops.specs.Loops.{tabulate}
use Rattle.grid.specs.Sides.{bad_sides}
use Rattle.grid.specs.Heights.{first_not_finite, all_finite}

-- the block of column (or row) x: x × reduced / side
abbrev pub block_of : ℕ → ℕ → ℕ → ℕ
block_of side reduced x = x * reduced / side

-- the first column (or row) of block b
abbrev pub first_in_block : ℕ → ℕ → ℕ → ℕ
first_in_block side reduced b = (b * side + (reduced - 1)) / reduced

-- the columns from the first of block b to below the first of block b + 1 are those that the source adds to b; every
-- block has a column, and together the blocks are the whole side
pub record BlocksOf (side reduced : ℕ) : Type 0 where
  pub sent : (x b : ℕ) → block_of side reduced x ≡ b → (first_in_block side reduced b ≤ x) × (x < first_in_block side reduced (b + 1))
  pub taken : (x b : ℕ) → first_in_block side reduced b ≤ x → x < first_in_block side reduced (b + 1) → block_of side reduced x ≡ b
  pub nonempty : (b : ℕ) → first_in_block side reduced b < first_in_block side reduced (b + 1)
  pub begins : first_in_block side reduced 0 ≡ 0
  pub ends : first_in_block side reduced reduced ≡ side

-- The blocks are the source's, for any reduced side from 1 to the full one.
abbrev pub SourceBlocks : Type 0
SourceBlocks = (side reduced : ℕ) → 1 ≤ reduced → reduced ≤ side → BlocksOf side reduced

abbrev pub count_of : ℕ → ℕ → ℕ → ℕ
count_of side reduced b = first_in_block side reduced (b + 1) - first_in_block side reduced b

-- acc + src[at] + src[at + 1] …, n values
unfoldable pub row_sum : List Float → ℕ → ℕ → Float → Float
row_sum src at zero acc = acc
row_sum src at (suc n) acc = add binary32 (row_sum src at n acc) (get_or src (at + n) nan)

-- the sum of a block, starting at +0: n columns from column x on, in each of the rows y, y + 1, …
unfoldable pub block_sum : List Float → ℕ → ℕ → ℕ → ℕ → ℕ → Float
unfolding row_sum
block_sum src w x n y zero = of_bits binary32 0
block_sum src w x n y (suc rows) = row_sum src (x + (y + rows) * w) n (block_sum src w x n y rows)

-- the average of block (bx, by): its sum / the number of its cells
unfoldable pub average_of : List Float → ℕ → ℕ → ℕ → ℕ → ℕ → ℕ → Float
unfolding block_sum
average_of src w h dw dh bx by =
    div binary32 (block_sum src w (first_in_block w dw bx) (count_of w dw bx) (first_in_block h dh by) (count_of h dh by))
    (whole (count_of w dw bx * count_of h dh by))

unfoldable pub downsampled : List Float → ℕ → ℕ → ℕ → ℕ → List Float
unfolding average_of tabulate
downsampled src w h dw dh = tabulate (dw * dh) (λ c. average_of src w h dw dh (c % dw) (c / dw))

-- l holds n values, each of which binary32 holds
pub record Values (n : ℕ) (l : List Float) : Type 0 where
  pub count : length l ≡ n
  pub fit : Fit l

-- refusal 2: a reduced side that is 0 or greater than the full one
abbrev pub bad_reduced : ℕ → ℕ → Bool
bad_reduced reduced side = eqb reduced 0 || ltb side reduced

-- 1: a side; 2: a reduced side; 3: a length, of the full map or of the reduced one; 5: a height of the full map; else
-- `then`. `number` gives the result of a refusal by its number, `at` that of a refusal with a cell
abbrev pub map_refusal : {A : Type 0} → List Float → ℕ → ℕ → ℕ → ℕ → ℕ → (ℕ → A) → (ℕ → ℕ → A) → A → A
map_refusal map w h dlen dw dh number at then =
    cond (bad_sides w h) (number 1)
    (cond (bad_reduced dw w || bad_reduced dh h) (number 2)
    (cond (not (eqb (length map) (w * h)) || not (eqb dlen (dw * dh))) (number 3) (cond (all_finite map) then (at 5 (first_not_finite map)))))

-- the answer of `downsample`: the refusals of `map_refusal`, then 22: an average not finite
abbrev pub downsample_answer : List Float → ℕ → ℕ → ℕ → ℕ → ℕ → Outcome (Unit {0})
downsample_answer src w h len dw dh =
    map_refusal src w h len dw dh refused refused_at (cond (all_finite (downsampled src w h dw dh)) (gives tt) (refused 22))

-- what the result slice holds at the end: what it held on 1 to 5, else the averages
abbrev pub downsample_result : List Float → ℕ → ℕ → List Float → ℕ → ℕ → List Float
downsample_result src w h dst dw dh =
    map_refusal src w h (length dst) dw dh (λ n. dst) (λ n c. dst) (downsampled src w h dw dh)

-- r is the answer of `downsample`, and `after` is what the result slice holds at the end
pub record Downsampled (src : List Float) (w h : ℕ) (dst : List Float) (dw dh : ℕ) (r : Answer) (after : List Float) : Type 0 where
  pub answer : answer_of r ≡ downsample_answer src w h (length dst) dw dh
  pub result : after ≡ downsample_result src w h dst dw dh
