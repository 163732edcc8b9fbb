-- What an incision leaves does not depend on the work list: any two work lists of the same receivers give the same
-- areas and the same heights.
use Rattle.std.specs.Prelude.{ℕ, ◌^◌, ◌≤◌, ◌≡◌, List, length, Float}
use Rattle.drainage.specs.Ground.{Ground}
use Rattle.drainage.specs.Ways.{WorkList, areas_along}
use Rattle.fluvial_erosion.specs.Incision.{incised_by}
use Rattle.fluvial_erosion.specs.declared.FluvialParams.{FluvialParams}

-- the lists `first` and `second` give the same areas and the same incised heights, bit for bit
pub record SameIncision (g : Ground) (p : FluvialParams) (recv first second : List ℕ) (hs : List Float) : Type 0 where
  pub areas : areas_along g.cells recv first ≡ areas_along g.cells recv second
  pub heights : incised_by g p recv first hs ≡ incised_by g p recv second hs

-- For given heights and receivers, of at most 2^24 cells, any two work lists give the same areas and the same incised
-- heights. Neither the ground nor the heights need be a grid's, and the heights need not be finite.
abbrev pub Independence : Type 0
Independence =
    (g : Ground) (p : FluvialParams) (recv first second : List ℕ) (hs : List Float) → g.cells ≡ length hs → g.cells ≤ 2 ^ 24
    → WorkList g.cells recv first → WorkList g.cells recv second → SameIncision g p recv first second hs
