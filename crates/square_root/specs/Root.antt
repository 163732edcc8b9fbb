-- Document 01, 'Square root': IEEE 754 squareRoot on every float, worked out from squares of whole numbers.
use Rattle.std.specs.Prelude.{ℕ, zero, suc, ◌+◌, ◌-◌, ◌*◌, ◌/◌, ◌^◌, true, false, cond, ◌&&◌, leb, ltb, pos, Float}
use Rattle.std.specs.Float.{nan, inf, fin, binary32}
use Rattle.std.specs.Float.Ieee.{up, down, size, round, le}
use Rattle.std.specs.Float.Ieee.Scale.{finite}
use Rattle.answers.specs.Outcome.{Outcome, gives, refused}

-- r with k more binary digits, the highest first, each kept if the square is then not above n
unfoldable pub digits : ℕ → ℕ → ℕ → ℕ
digits zero r n = r
digits (suc k) r n = let t = r + 2 ^ k in digits k (cond (leb (t * t) n) t r) n

-- the greatest whole number whose square is not above n, for n below 2 ^ 48
unfoldable pub whole_root : ℕ → ℕ
whole_root n = digits 24 0 n

-- the whole number nearest to the root of n; a tie cannot occur, since the square of an odd number is not 4 * n
unfoldable pub nearest_root : ℕ → ℕ
nearest_root n = let s = whole_root n in cond (ltb (4 * n) ((2 * s + 1) * (2 * s + 1))) s (suc s)

-- squareRoot of every float: a zero keeps its sign, and below 0 the result is NaN. For a positive number, X is that
-- number in units of 4 ^ -150; X / 4 ^ j, which is exact, has 47 or 48 binary digits, so its nearest whole root has the
-- 24 binary digits of a binary32, and `round` changes nothing.
unfoldable pub root_of : Float → Float
root_of nan = nan
root_of (inf true) = nan
root_of (inf false) = inf false
root_of (fin s zero e) = fin s zero e
root_of (fin true (suc m) e) = nan
root_of (fin false (suc m) e) =
    let X = suc m * up e * 2 ^ 300 / down e in
    let j = (size X - 47) / 2 in
    round binary32 false (nearest_root (X / 4 ^ j) * 2 ^ j) (2 ^ 150)

-- what the call `root` answers: refused by 4 unless x is finite and, as a number, not below 0; so -0 is accepted
unfoldable pub root_answer : Float → Outcome Float
root_answer x = cond (finite x && le (fin false 0 (pos 0)) x) (gives (root_of x)) (refused 4)
