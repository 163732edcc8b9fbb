-- What is proved of every routing. Premises: the ground is connected and has a base cell, and heights of the kind
-- compare as numbers do. Sides 1 to 4,096 with finite binary32 heights are one case.
use Rattle.std.specs.Prelude.{ℕ, ◌^◌, ◌≤◌, ◌<◌, max, ◌≡◌, true, List, length, get_or, eqb, ltb}
use Rattle.std.specs.Float.{nan}
use Rattle.floats.specs.Stand.{whole}
use Rattle.drainage.specs.Ground.{Ground, Kind}
use Rattle.drainage.specs.Routing.{order_of, spill_of, receivers_of}
use Rattle.loops.specs.Counts.{sum_below}
use Rattle.drainage.specs.Ways.{WorkList, area_of, areas_along}
use Rattle.drainage.specs.Chains.{Neighbours, LeastCrest}

-- There are at most 2^32 cells, neighbours are other cells and mutual, steps to neighbours join any two cells, and some
-- cell is base level.
pub record Joined (g : Ground) : Type 1 where
  pub few : g.cells ≤ 2 ^ 32
  pub other : (c m : ℕ) → c < g.cells → Neighbours g c m → c ≡ m → ⊥
  pub both_ways : (c m : ℕ) → c < g.cells → Neighbours g c m → Neighbours g m c
  pub joins : (P : ℕ → Type 0) → ((c m : ℕ) → c < g.cells → Neighbours g c m → P c → P m) → (a : ℕ) → a < g.cells → P a → (b : ℕ) → b < g.cells → P b
  pub outlet : ℕ
  pub outlet_inside : outlet < g.cells
  pub outlet_base : g.base outlet ≡ true

-- Heights compare as numbers do: `Good` heights have a number; the greater of two is `Good` and has the greater number;
-- strictly lower means a lower number, and then a lower key; keys have 32 bits.
pub record Numbers {H : Type 0} (k : Kind H) (Good : H → Type 0) (number : H → ℕ) : Type 0 where
  pub raised_good : (a b : H) → Good a → Good b → Good (k.raised a b)
  pub raised_number : (a b : H) → Good a → Good b → number (k.raised a b) ≡ max (number a) (number b)
  pub lower_number : (a b : H) → Good a → Good b → k.lower a b ≡ ltb (number a) (number b)
  pub key_follows : (a b : H) → Good a → Good b → number a < number b → k.key a < k.key b
  pub key_narrow : (a : H) → Good a → k.key a < 2 ^ 32

module _ {H : Type 0} (k : Kind H) (g : Ground) (hs : List H) (number : H → ℕ) where
  -- One routing: the order holds every cell exactly once, each after any other cell it drains into; a cell is its own
  -- receiver exactly if it is base level, and every other receiver is a neighbour; a cell's spill height is the least,
  -- over all chains from it to base level, of the greatest height on the chain, as numbers.
  pub record Network : Type 0 where
    pub work_list : WorkList g.cells (receivers_of k g hs) (order_of k g hs)
    pub base_own : (c : ℕ) → c < g.cells → g.base c ≡ true → get_or (receivers_of k g hs) c 0 ≡ c
    pub own_base : (c : ℕ) → c < g.cells → get_or (receivers_of k g hs) c 0 ≡ c → g.base c ≡ true
    pub adjacent : (c : ℕ) → c < g.cells → (get_or (receivers_of k g hs) c 0 ≡ c → ⊥) → Neighbours g c (get_or (receivers_of k g hs) c 0)
    pub least : (c : ℕ) → c < g.cells → LeastCrest g (λ i. number (get_or hs i k.absent)) c (number (get_or (spill_of k g hs) c k.absent))

-- Every routing is a network: of heights of any kind that compare as numbers do, a good one for each cell, on any
-- ground that is `Joined`.
abbrev pub Networks : Type 1
Networks =
    (H : Type 0) (k : Kind H) (g : Ground) (hs : List H) (Good : H → Type 0) (number : H → ℕ) → Joined g → Numbers k Good number
    → length hs ≡ g.cells → ((c : ℕ) → c < g.cells → Good (get_or hs c k.absent)) → Network k g hs number

-- The areas added as floats along a list are the numbers of cells whose way down passes through the cell, and the areas
-- of the cells that are their own receiver total the cells of the grid.
pub record CountedAreas (n : ℕ) (recv : List ℕ) (list : List ℕ) : Type 0 where
  pub area : (c : ℕ) → c < n → get_or (areas_along n recv list) c nan ≡ whole (area_of n recv c)
  pub total : sum_below n (λ c. eqb (get_or recv c 0) c) (area_of n recv) ≡ n

-- Along any work list of any receivers, with at most 2^24 cells, areas are such counts.
abbrev pub Areas : Type 0
Areas = (n : ℕ) → n ≤ 2 ^ 24 → (recv list : List ℕ) → WorkList n recv list → CountedAreas n recv list
