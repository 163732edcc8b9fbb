-- Lists of binary32 values.
use Rattle.std.specs.Prelude.{ℕ, List, T, get_or, Float}
use Rattle.std.specs.Float.{nan, binary32}
use Rattle.std.specs.Float.Ieee.{fits}

-- binary32 holds every element
abbrev pub Fit : List Float → Type 0
Fit hs = (i : ℕ) → T (fits binary32 (get_or hs i nan))
