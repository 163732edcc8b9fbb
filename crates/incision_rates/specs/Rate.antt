-- Document 01, 'Incision', the coefficient before its division by the distance.
use Rattle.std.specs.Prelude.{ℕ, ◌≡◌, List, ◌++◌, drop, replicate, Float}
use Rattle.std.specs.Float.{binary32}
use Rattle.std.specs.Float.Ieee.{of_bits, mul, div}
use Rattle.loops.specs.Loops.{tabulate}
use Rattle.floats.specs.Stand.{max_of, whole}
use Rattle.square_root.specs.Root.{root_of}

-- the source's HILLSLOPE_AREA, 1e-4: the share of the map below which an area counts as that share
abbrev pub hillslope_area : Float
hillslope_area = of_bits binary32 0x38d1_b717

-- k × root(max(area, 1e-4 × n) / n)
abbrev pub rate_of : Float → Float → Float → Float
rate_of area n k = mul binary32 k (root_of (div binary32 (max_of area (mul binary32 hillslope_area n)) n))

-- One cell of 10,006 is less than 1e-4 of them, so that the floor decides. The value is the published source's
-- (oracle/src/plates.rs), and either neighbour of 1e-4 would give another.
abbrev pub FloorExample : Type 0
FloorExample = rate_of (whole 1) (whole 10006) (whole 1) ≡ of_bits binary32 0x3c23_d70a

-- a table of 1,024 places: the rates of the whole areas below m, and 0 from there on
unfoldable pub rates_of : ℕ → Float → Float → List Float
unfolding tabulate
rates_of m n k = tabulate m (λ i. rate_of (whole i) n k) ++ drop m (replicate 1024 (of_bits binary32 0))
