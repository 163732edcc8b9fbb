-- Document 01, 'Stand-ins': Rust's max, trunc, round, ceil, fract and the cast of a float to an index, defined for
-- every float. A finite float `fin s m e` is ± m × up e / down e. Each whole number below is computed in ℕ; it is exact
-- in binary32 where the float was not whole already.
use Rattle.std.specs.Prelude.{◌≡◌, ℕ, ◌+◌, ◌-◌, ◌*◌, ◌/◌, ◌^◌, ◌<◌, ◌≤◌, min, Bool, true, false, cond, pos, Float}
use Rattle.std.specs.Float.{nan, inf, fin, binary32}
use Rattle.std.specs.Float.Ieee.{up, down, round, sub, lt, le, of_int, to_unsigned}

-- max(a, b): a if a ≥ b, else b
abbrev pub max_of : Float → Float → Float
max_of a b = cond (le b a) a b

-- x as a whole number, with x's sign: q a d, where a / d is the absolute value of x; infinities and NaN stay as they
-- are
unfoldable pub whole_by : (ℕ → ℕ → ℕ) → Float → Float
whole_by q nan = nan
whole_by q (inf s) = inf s
whole_by q (fin s m e) = round binary32 s (q (m * up e) (down e)) 1

-- a / d without its fraction; `nearest_of`: the whole number nearest to a / d, half up
abbrev pub quotient_of : ℕ → ℕ → ℕ
quotient_of a d = a / d

abbrev pub nearest_of : ℕ → ℕ → ℕ
nearest_of a d = (2 * a + d) / (2 * d)

-- `nearest_of` for true, `quotient_of` for false
abbrev pub rule_of : Bool → ℕ → ℕ → ℕ
rule_of false = quotient_of
rule_of true = nearest_of

-- x without its fraction, with x's sign
abbrev pub trunc_of : Float → Float
trunc_of x = whole_by quotient_of x

-- the nearest whole number, half away from zero, with x's sign
abbrev pub round_of : Float → Float
round_of x = whole_by nearest_of x

-- the least whole number that is not below x, with x's sign
unfoldable pub ceil_of : Float → Float
ceil_of nan = nan
ceil_of (inf s) = inf s
ceil_of (fin false m e) = round binary32 false ((m * up e + (down e - 1)) / down e) 1
ceil_of (fin true m e) = round binary32 true (m * up e / down e) 1

-- n as the nearest float
abbrev pub whole : ℕ → Float
whole n = of_int binary32 (pos n)

-- x - trunc(x), rounded once
abbrev pub fract_of : Float → Float
fract_of x = sub binary32 x (trunc_of x)

-- x as an index of a side, held inside it: cut to a whole number (0 below 1 and for a NaN), and at most side - 1
abbrev pub index_of : ℕ → Float → ℕ
index_of side x = min (to_unsigned 64 x) (side - 1)

-- On a coordinate below its side, of at most 2^24 cells, the index is Rust's own cast: what holds it inside the side
-- changes nothing.
abbrev pub IndexInside : Type 0
IndexInside = (x : Float) (side : ℕ) → 0 < side → side ≤ 2 ^ 24 → lt x (whole side) ≡ true → index_of side x ≡ to_unsigned 64 x
