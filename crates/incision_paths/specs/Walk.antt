-- A walk down from a cell and back up, in terms of the words and of the slice of new heights. A word's step is 15 once
-- its cell is done, that is its new height is computed. During a walk, the place of each cell that the walk has come to
-- holds the number of the cell that it came from.
use Rattle.std.specs.Prelude.{ℕ, ◌+◌, ◌-◌, ◌%◌, ◌^◌, ◌≤◌, ◌<◌, ◌≡◌, Bool, true, false, cond, List, [], ◌∷◌, length, get_or, eqb, Float}
use Rattle.std.specs.Float.{nan, binary32}
use Rattle.std.specs.Float.Ieee.{of_bits, to_bits}
use Rattle.loops.specs.Counts.{times}
use Rattle.drainage.specs.Ways.{WorkList}
use Rattle.receiver_steps.specs.Step.{step_of}
use Rattle.areas.specs.Words.{area_word, areas_in, Words, SteppedNetwork}
use Rattle.incision_cell.specs.declared.Incision.{Incision}
use Rattle.incision_paths.specs.Settled.{settled_heights}

-- whether the cell of a word is done
abbrev pub is_made : ℕ → Bool
is_made word = eqb (word % 16) 15

-- whether cell c is done
abbrev pub done_in : List Float → ℕ → Bool
done_in words c = is_made (to_bits binary32 (get_or words c nan))

-- the word of a cell once it is done: its area, and 15 in place of the step
abbrev pub done_word : Float → Float
done_word x = of_bits binary32 (to_bits binary32 x - to_bits binary32 x % 16 + 15)

-- whether a walk ends at cell j, whose receiver is r: r is j itself, or is done
abbrev pub ends_at : List Float → ℕ → ℕ → Bool
ends_at words j r = cond (eqb r j) true (done_in words r)

-- x is a word of cell c, whose receiver is r: its step is the one to r, or 15 once the cell is done
pub record MarkFor (w c r : ℕ) (x : Float) : Type 0 where
  pub area : ℕ
  pub step : ℕ
  pub few : area ≤ 2 ^ 24
  pub small : step < 16
  pub same : x ≡ of_bits binary32 (area_word area step)
  pub free : (step ≡ 15 → ⊥) → step ≡ step_of w c r

-- `words` are the words of all cells, some of which are done
pub record Marked (w : ℕ) (recv : List ℕ) (words : List Float) : Type 0 where
  pub long : length words ≡ length recv
  pub each : (c : ℕ) → c < length recv → MarkFor w c (get_or recv c 0) (get_or words c nan)

-- recv has a work list, so that no way down comes back to a cell
pub record Ordered (recv : List ℕ) : Type 0 where
  pub list : List ℕ
  pub work : WorkList (length recv) recv list

-- recv, which has a work list, are the receivers of a grid of w columns, three or more; hmap and out, the lengths of
-- the heights and of the results, are as many cells
pub record Ways (w : ℕ) (recv : List ℕ) (hmap out : ℕ) : Type 0 where
  pub network : SteppedNetwork w recv out
  pub ordered : Ordered recv
  pub heights : hmap ≡ length recv

-- cell c is done if it is below i, and if it is done, `out` has its height in `made`
pub record Held (i : ℕ) (made : ℕ → Float) (words out : List Float) (c : ℕ) : Type 0 where
  pub earlier : c < i → done_in words c ≡ true
  pub already : done_in words c ≡ true → get_or out c nan ≡ made c

-- all cells below i are done, every cell that is done has its height in `made` in `out`, and the words still have the
-- areas
pub record Upto (w : ℕ) (recv : List ℕ) (areas : List Float) (i : ℕ) (made : ℕ → Float) (words out : List Float) : Type 0 where
  pub marks : Marked w recv words
  pub kept : areas_in words ≡ areas
  pub long : length out ≡ length recv
  pub held : (c : ℕ) → c < length recv → Held i made words out c

-- The cells that a walk from cell i passed before it came to cell j, the nearest first and i last; none where j is i.
-- Each drains into the cell that the walk came to next, another cell, whose place in `out` holds its number.
pub data Trail (n : ℕ) (recv : List ℕ) (out : List Float) (i : ℕ) : ℕ → List ℕ → Type 0 where
  starts : i < n → Trail n recv out i i []
  onward : {j b : ℕ} {up : List ℕ} → j < n → get_or recv b 0 ≡ j → (j ≡ b → ⊥) → get_or out j nan ≡ of_bits binary32 b → Trail n recv out i b up → Trail n recv out i j (b ∷ up)

-- a walk down from cell i is at cell j after `steps` steps: none of its cells is done, and `out` has every other cell
-- as in `old`
pub record Descent (recv : List ℕ) (words old : List Float) (i : ℕ) (out : List Float) (j steps : ℕ) : Type 0 where
  pub up : List ℕ
  pub trail : Trail (length recv) recv out i j up
  pub count : length up ≡ steps
  pub long : length out ≡ length old
  pub fresh : (c : ℕ) → 0 < times c (j ∷ up) → done_in words c ≡ false
  pub same : (c : ℕ) → times c (j ∷ up) ≡ 0 → get_or out c nan ≡ get_or old c nan

-- a walk down from cell i has ended at cell j after `steps` steps
pub record Descended (recv : List ℕ) (words old : List Float) (i : ℕ) (out : List Float) (j steps : ℕ) : Type 0 where
  pub walk : Descent recv words old i out j steps
  pub ends : ends_at words j (get_or recv j 0) ≡ true

-- a walk back up to cell i is at cell j with `steps` steps to go: the receiver of j, if another cell, has its new
-- height, no cell from j up to i is done, and Held is true of every other cell
pub record Ascent (w : ℕ) (recv : List ℕ) (areas : List Float) (i : ℕ) (made : ℕ → Float) (words out : List Float) (j steps : ℕ) : Type 0 where
  pub up : List ℕ
  pub trail : Trail (length recv) recv out i j up
  pub count : length up ≡ steps
  pub marks : Marked w recv words
  pub kept : areas_in words ≡ areas
  pub long : length out ≡ length recv
  pub below : (get_or recv j 0 ≡ j → ⊥) → get_or out (get_or recv j 0) nan ≡ made (get_or recv j 0)
  pub fresh : (c : ℕ) → 0 < times c (j ∷ up) → done_in words c ≡ false
  pub held : (c : ℕ) → c < length recv → times c (j ∷ up) ≡ 0 → Held i made words out c

-- `out` holds the new heights of all cells by the areas in the words `old`, and the words `new` still have these areas
pub record SettledWays (by : Incision) (hs : List Float) (recv : List ℕ) (old new out : List Float) : Type 0 where
  pub heights : out ≡ settled_heights by hs (areas_in old) recv
  pub areas : areas_in new ≡ areas_in old
  pub words : Words new
