-- Values computed upstream: a cell's new value comes from its own value and from the one that its receiver then has.
use Rattle.std.specs.Prelude.{ℕ, zero, suc, ◌<◌, ◌≡◌, List, [], ◌∷◌, length, get_or, set, Float}
use Rattle.std.specs.Float.{nan}
use Rattle.loops.specs.Loops.{tabulate}
use Rattle.drainage.specs.Ways.{WorkList}
use Rattle.incision_cell.specs.Cut.{cut_down}
use Rattle.incision_cell.specs.declared.Incision.{Incision}

-- For any rule `make`: `make c own down` is the new value of cell c, from its own value and the one that its receiver
-- then has.
module _ {A : Type 0} (absent : A) (recv : List ℕ) (make : ℕ → A → A → A) where
  -- forward along a list, each cell from the values as they then stand
  unfoldable pub made_along : List ℕ → List A → List A
  made_along [] l = l
  made_along (c ∷ rest) l = made_along rest (set l c (make c (get_or l c absent) (get_or l (get_or recv c 0) absent)))

  -- the value of cell c after the first k cells of its way down, c included, are computed, the lowest first; no list is
  -- used
  unfoldable pub settled : List A → ℕ → ℕ → A
  settled l zero c = get_or l c absent
  settled l (suc k) c = make c (get_or l c absent) (settled l k (get_or recv c 0))

-- Two rules over the same receivers that make the same of each cell, from the value that it has in either list of n
-- values and from any value of its receiver, leave the same values along any two work lists; a cell that is its own
-- receiver is made of its own value alone.
abbrev pub AlongAlike : Type 1
AlongAlike =
    (A : Type 0) (absent : A) (recv : List ℕ) (f g : ℕ → A → A → A) (n : ℕ) (a b : List A) → length a ≡ n → length b ≡ n
    → ((c : ℕ) (x : A) → c < n → f c (get_or a c absent) x ≡ g c (get_or b c absent) x)
    → ((c : ℕ) (y z : A) → c < n → get_or recv c 0 ≡ c → g c (get_or b c absent) y ≡ g c (get_or b c absent) z)
    → (first second : List ℕ) → WorkList n recv first → WorkList n recv second
    → made_along absent recv f first a ≡ made_along absent recv g second b

-- the height of cell c once its whole way down is done: a way down has at most as many cells as there are
unfoldable pub settled_height : Incision → List Float → List Float → List ℕ → ℕ → Float
unfolding settled
settled_height by hs areas recv c = settled nan recv (cut_down by areas recv) hs (length hs) c

-- the new heights of all cells
unfoldable pub settled_heights : Incision → List Float → List Float → List ℕ → List Float
unfolding tabulate settled_height
settled_heights by hs areas recv = tabulate (length hs) (settled_height by hs areas recv)
