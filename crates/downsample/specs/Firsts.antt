-- The first columns (or rows) of all blocks of a side, and a row of averages.
use Rattle.std.specs.Prelude.{ℕ, ◌+◌, List, ◌++◌, drop, replicate, Float}
use Rattle.loops.specs.Loops.{tabulate}
use Rattle.resample.specs.Blocks.{first_in_block, average_of}

-- an array of 4,097 places: the first column (or row) of each block, and the end past the last; 0 from there on
unfoldable pub firsts_of : ℕ → ℕ → List ℕ
unfolding tabulate
firsts_of side reduced = tabulate (reduced + 1) (first_in_block side reduced) ++ drop (reduced + 1) (replicate 4097 0)

-- the averages of row by of the blocks
unfoldable pub averages_of : List Float → ℕ → ℕ → ℕ → ℕ → ℕ → List Float
unfolding tabulate average_of
averages_of src w h dw dh by = tabulate dw (λ bx. average_of src w h dw dh bx by)
