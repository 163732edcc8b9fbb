-- Refusal 6: a lent receiver that is neither its own cell nor an 8-neighbour.
use Rattle.std.specs.Prelude.{ℕ, suc, ◌+◌, ◌-◌, ◌*◌, Bool, true, false, cond, not, ◌&&◌, ◌||◌, List, ◌==◌, nat_le, nat_lt, slice_index}
use Rattle.loops.specs.Loops.{turns}
use Rattle.loops.specs.Firsts.{first_failing}
use Rattle.grid.specs.Directions.{neighbour_at}

-- r is the cell c itself or one of its 8 neighbours
unfoldable pub good_receiver : ℕ → ℕ → ℕ → ℕ → Bool
unfolding turns
good_receiver w h c r = nat_lt r (w * h) && (r == c || turns 8 (λ i found. found || neighbour_at w h c (suc i) == r) false)

-- the receiver of cell c is good
abbrev pub receiver_test : ℕ → ℕ → List ℕ → ℕ → Bool
receiver_test w h recv c = good_receiver w h c (slice_index recv c)

-- r is one of the three cells from a on
abbrev pub among_three : ℕ → ℕ → Bool
among_three a r = nat_le a r && nat_lt r (a + 3)

-- r is an inner cell c or a neighbour of it: one of three cells in the row above, in the cell's own row or in the row
-- below
abbrev pub beside_inner : ℕ → ℕ → ℕ → Bool
beside_inner w c r =
    let from = c - (w + 1) in
    among_three from r || among_three (from + w) r || among_three (from + w + w) r

-- the receiver of every inner cell of row y is that cell or a neighbour of it, by beside_inner
unfoldable pub inner_pass : ℕ → List ℕ → ℕ → Bool
unfolding turns
inner_pass w recv y = turns (w - 2) (λ i good. good && beside_inner w (1 + i + y * w) (slice_index recv (1 + i + y * w))) true

-- the quick test of a whole row: row y is an inner row, its first and last receivers are good, and so are those of its
-- inner cells
unfoldable pub row_passes : ℕ → ℕ → List ℕ → ℕ → Bool
unfolding inner_pass good_receiver
row_passes w h recv y =
    cond (nat_lt w 3) false
    (cond (y == 0) false
    (cond (y + 1 == h) false
    (cond (not (receiver_test w h recv (0 + y * w))) false (cond (not (receiver_test w h recv (w - 1 + y * w))) false (inner_pass w recv y)))))

-- refusal 6: the first cell with a receiver that is not good
abbrev pub first_bad_receiver : ℕ → ℕ → List ℕ → ℕ
first_bad_receiver w h recv = first_failing (w * h) (receiver_test w h recv)
