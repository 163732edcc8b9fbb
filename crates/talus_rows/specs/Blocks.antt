-- The totals of excesses and the losses of the inner cells of a row.
use Rattle.std.specs.Prelude.{ℕ, zero, suc, ◌+◌, ◌*◌, ◌<◌, ◌≡◌, cond, List, ◌++◌, get_or, drop, Float}
use Rattle.std.specs.Float.{nan, binary32}
use Rattle.std.specs.Float.Ieee.{of_bits, mul, lt, le}
use Rattle.loops.specs.Loops.{tabulate}
use Rattle.talus.specs.Talus.{shed_of}

module _ (w h : ℕ) (ts hs : List Float) where
  -- the total of the excesses of cell c, 0 below the water level; then what cell c loses, strength × greatest excess
  abbrev pub shed_total : Float → ℕ → Float
  shed_total water c = cond (lt (get_or hs c nan) water) (of_bits binary32 0) (shed_of w h ts hs c).total

  abbrev pub moved_from : Float → ℕ → Float
  moved_from strength c = mul binary32 strength (shed_of w h ts hs c).greatest

-- the n cells of row y from column x on
pub record RowCells : Type 0 where
  pub y : ℕ
  pub x : ℕ
  pub n : ℕ

-- what cells shed: the totals of their excesses, and their losses
pub record ShedArrays : Type 0 where
  pub totals : List Float
  pub moved : List Float

-- `held` has, from the front, the totals and the losses of `cells`
pub record Sheds (w h : ℕ) (ts hs : List Float) (strength water : Float) (cells : RowCells) (held : ShedArrays) : Type 0 where
  pub total : (i : ℕ) → i < cells.n → get_or held.totals i nan ≡ shed_total w h ts hs water (cells.x + i + cells.y * w)
  pub loss : (i : ℕ) → i < cells.n → get_or held.moved i nan ≡ moved_from w h ts hs strength (cells.x + i + cells.y * w)

-- `after` is `before` with the totals and the losses of `cells` written to the front; what stands behind is as it was
pub record ShedsPut (w h : ℕ) (ts hs : List Float) (strength water : Float) (cells : RowCells) (before after : ShedArrays) : Type 0 where
  pub total : after.totals ≡ tabulate cells.n (λ i. shed_total w h ts hs water (cells.x + i + cells.y * w)) ++ drop cells.n before.totals
  pub loss : after.moved ≡ tabulate cells.n (λ i. moved_from w h ts hs strength (cells.x + i + cells.y * w)) ++ drop cells.n before.moved

-- how many of the first n cells shed
unfoldable pub shedders : List Float → ℕ → ℕ
shedders totals zero = 0
shedders totals (suc n) = shedders totals n + cond (le (get_or totals n nan) (of_bits binary32 0)) 0 1
