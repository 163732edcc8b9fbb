-- Finite as two comparisons with the infinities; and that every stand-in's result is a binary32 value.
use Rattle.std.proofs.Common.{◌≡◌, ℕ, ◌*◌, Bool, true, false, T, sym, refl}
use lib.Ieee.{Float, nan, inf, fin, binary32, up, down, lt, le, fits}
use lib.Ieee.Fits.{cond-fits, nan-fits, inf-fits, round-fits}
use lib.Ieee.Exact.{HasValue}
use lib.Ieee.Scale.{finite}
use Rattle.floats.specs.Stand.{max_of, whole_by}

-- above -∞: finite exactly if below +∞
pub above_low : (x : Float) → lt (inf true) x ≡ true → lt x (inf false) ≡ finite x
unfolding lt
above_low nan h = refl
above_low (inf true) h = sym h
above_low (inf false) h = refl
above_low (fin s m e) h = refl

-- not above -∞: not finite
pub not_above_low : (x : Float) → lt (inf true) x ≡ false → false ≡ finite x
unfolding lt
not_above_low nan h = refl
not_above_low (inf true) h = refl
not_above_low (inf false) h = refl
not_above_low (fin s m e) h = sym h

-- ---- what the stand-ins keep
pub max_of_fits : (a b : Float) → T (fits binary32 a) → T (fits binary32 b) → T (fits binary32 (max_of a b))
max_of_fits a b p q = cond-fits binary32 (le b a) a b p q

pub whole_fits : (q : ℕ → ℕ → ℕ) (x : Float) → T (fits binary32 (whole_by q x))
unfolding whole_by
whole_fits q nan = nan-fits binary32
whole_fits q (inf s) = inf-fits binary32 s
whole_fits q (fin s m e) = round-fits binary32 s (q (m * up e) (down e)) 1

pub value_finite : (x : Float) (s : Bool) (a c : ℕ) → HasValue x s a c → T (finite x)
value_finite (fin t m e) s a c v = tt
value_finite nan s a c v = elim v [ ]
value_finite (inf _) s a c v = elim v [ ]
