-- Chains to base level and their crests. A chain starts with the cell, steps from neighbour to neighbour and ends with
-- a base-level cell; a base-level cell alone is a chain.
use Rattle.std.specs.Prelude.{ℕ, ◌≤◌, ◌<◌, max, ◌≡◌, true}
use Rattle.drainage.specs.Ground.{Ground}

-- m is a neighbour of c
pub record Neighbours (g : Ground) (c m : ℕ) : Type 0 where
  pub direction : ℕ
  pub first : 1 ≤ direction
  pub last : direction ≤ 8
  pub inside : m < g.cells
  pub leads : g.near c direction ≡ m

-- a chain from c to base level
pub data Chain (g : Ground) : ℕ → Type 0 where
  ends : (c : ℕ) → g.base c ≡ true → Chain g c
  onward : (c : ℕ) {m : ℕ} → Neighbours g c m → Chain g m → Chain g c

-- the greatest height on a chain, as a number
unfoldable pub crest : {g : Ground} (height : ℕ → ℕ) {c : ℕ} → Chain g c → ℕ
crest height (ends c b) = height c
crest height (onward c n rest) = max (height c) (crest height rest)

-- v is the least, over all chains from c, of the greatest height on the chain: one chain attains it, and none is lower
pub record LeastCrest (g : Ground) (height : ℕ → ℕ) (c v : ℕ) : Type 0 where
  pub chain : Chain g c
  pub attained : crest height chain ≡ v
  pub least : (other : Chain g c) → v ≤ crest height other
