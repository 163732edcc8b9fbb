-- Refusal 7: a lent list that is no work list.
use Rattle.std.specs.Prelude.{ℕ, ◌<◌, ◌≡◌, Bool, true, ◌&&◌, ◌||◌, List, length, get_or, take, eqb, ltb}
use Rattle.loops.specs.Loops.{turns}
use Rattle.loops.specs.Firsts.{first_failing}
use Rattle.loops.specs.Counts.{times}
use Rattle.drainage.specs.Ways.{WorkList}

-- every entry of a list is one of n cells
unfoldable pub every_cell : ℕ → List ℕ → Bool
unfolding turns
every_cell n list = turns (length list) (λ p good. good && ltb (get_or list p 0) n) true

-- the entry at a position is a cell, did not stand earlier, and any other cell that it drains into did
unfoldable pub good_entry : ℕ → List ℕ → List ℕ → ℕ → Bool
unfolding times
good_entry n recv list position =
    let c = get_or list position 0 in
    let r = get_or recv c 0 in
    let earlier = take position list in
    ltb c n && (eqb (times c earlier) 0 && (eqb r c || ltb 0 (times r earlier)))

-- refusal 7: the first position with an entry that is not good
abbrev pub first_bad_entry : ℕ → List ℕ → List ℕ → ℕ
first_bad_entry n recv list = first_failing n (good_entry n recv list)

-- the entry at a position is good: one of n cells, not earlier in the list, and its receiver, if another cell, earlier
pub record GoodAt (n : ℕ) (recv list : List ℕ) (position : ℕ) : Type 0 where
  pub cell : get_or list position 0 < n
  pub fresh : times (get_or list position 0) (take position list) ≡ 0
  pub after : (get_or recv (get_or list position 0) 0 ≡ get_or list position 0 → ⊥) → 0 < times (get_or recv (get_or list position 0) 0) (take position list)

-- no entry of the list is bad exactly if it is a work list
pub record PassesAsWorkList (n : ℕ) (recv list : List ℕ) : Type 0 where
  pub sound : first_bad_entry n recv list ≡ n → WorkList n recv list
  pub complete : WorkList n recv list → first_bad_entry n recv list ≡ n

-- Refusal 7 is two-way: a list of n entries passes exactly if it is a work list, whatever the receivers.
abbrev pub ListTest : Type 0
ListTest = (n : ℕ) (recv list : List ℕ) → length list ≡ n → PassesAsWorkList n recv list
