-- The number of passes as whole numbers have it: the scale and iterations × scale are exact, so passes = ⌈iterations ×
-- longest side / 512⌉, at least 1. And a run has one water level.
use Prim.Native.Nat.{ℕ, ◌+◌, ◌-◌, ◌*◌, ◌/◌, ◌^◌, ◌≤◌, ◌<◌, max, min}
use mathlib.Core.Path.{◌≡◌, refl, sym, ap, ◌∙◌, subst}
use mathlib.Core.Bool.{Bool, true, false, true≢false}
use mathlib.Core.Logic.{◌⊎◌, inl, inr}
use native.Mathlib.Nat.{eq-or-lt_of_le, lt_of_lt_of_le, mul_assoc, mul-pos, mul-le-mul, mul-le-mul_right, le_of_mul-le-mul_right, lt_of_mul-lt-mul_right, mul-lt-mul_of_pos_right, div-eq_of_lt-le, mul-mul-mul_comm}
use native.Mathlib.Omega.{arith}
use lib.IntN.{pos}
use lib.Dec.{T, lit<, lit≤}
use lib.Pow.{shl_lt}
use lib.Ieee.{Float, fin, Format, binary32, up, down, unlike, of_bits, of_int, round, mul, div, fits, to_unsigned}
use lib.Ieee.Fits.{down_pos, mul-fits}
use lib.Ieee.Exact.{HasValue, round_exact}
use lib.Ieee.Scale.{round_same}
use Rattle.floats.specs.Stand.{ceil_of}
use Rattle.floats.proofs.ValueLaws.{of_int_value, cut_value}
use Rattle.floats.proofs.WholeLaws.{ceil_of_value}
use Rattle.run_machine.specs.Plan.{scale_of, passes_of, OneWaterLevel}

pub one_water_level : OneWaterLevel
one_water_level w h s = record { land = refl; cuts = refl; slides = refl }

-- a product of two floats that are not negative, by any fractions that they equal
mul_values : (f : Format) (x y : Float) (a c b d : ℕ) → 0 < c → 0 < d → HasValue x false a c → HasValue y false b d → mul f x y ≡ round f false (a * b) (c * d)
unfolding mul
mul_values f lib.Ieee.nan y a c b d C D v w = elim v [ ]
mul_values f (lib.Ieee.inf _) y a c b d C D v w = elim v [ ]
mul_values f (fin s m e) lib.Ieee.nan a c b d C D v w = elim w [ ]
mul_values f (fin s m e) (lib.Ieee.inf _) a c b d C D v w = elim w [ ]
mul_values f (fin s m e) (fin t n g) a c b d C D v w =
    ap (λ (z : Bool). round f (unlike z t) (m * up e * (n * up g)) (down e * down g)) v.0
    ∙ ap (λ (z : Bool). round f (unlike false z) (m * up e * (n * up g)) (down e * down g)) w.0
    ∙ round_same f false (m * up e * (n * up g)) (down e * down g) (a * b) (c * d) (mul-pos (down_pos e) (down_pos g)) (mul-pos C D)
    (mul-mul-mul_comm (m * up e) (n * up g) c d ∙ ap (λ (z : ℕ). z * (n * up g * d)) v.1 ∙ ap (λ (z : ℕ). a * down e * z) w.1 ∙ mul-mul-mul_comm a (down e) b (down g))

-- a 512th of a whole number up to 2^24 is exact
parts_value : (n : ℕ) → n ≤ 2 ^ 24 → HasValue (round binary32 false n 512) false n 512
parts_value n h = go (eq-or-lt_of_le h)
  where
    go : (n ≡ 2 ^ 24) ⊎ (n < 2 ^ 24) → HasValue (round binary32 false n 512) false n 512
    go (inl e) =
        subst (λ (x : ℕ). HasValue (round binary32 false x 512) false x 512) (sym e)
        (round_exact binary32 false (2 ^ 24) 512 1 164 (lit< tt) (lit< tt) (lit< tt) refl)
    go (inr l) = round_exact binary32 false n 512 n 140 (lit< tt) l (lt_of_lt_of_le (shl_lt 24 140 l) (lit≤ tt)) (sym (mul_assoc n (2 ^ 140) 512))

-- divided by 512
div_value : (x : Float) (n : ℕ) → HasValue x false n 1 → div binary32 x (of_bits binary32 0x4400_0000) ≡ round binary32 false n 512
unfolding div of_bits
div_value lib.Ieee.nan n v = elim v [ ]
div_value (lib.Ieee.inf _) n v = elim v [ ]
div_value (fin s m e) n v =
    ap (λ (z : Bool). round binary32 (unlike z false) (m * up e * 1) (1 * 2 ^ 9 * down e)) v.0
    ∙ round_same binary32 false (m * up e * 1) (1 * 2 ^ 9 * down e) n 512 (mul-pos (lit< tt) (down_pos e)) (lit< tt) (cross (m * up e) (down e) v.1)
  where
    cross : (a d : ℕ) → a * 1 ≡ n * d → a * 1 * 512 ≡ n * (1 * 2 ^ 9 * d)
    cross a d h = omega arith

-- the scale is the longest side / 512, exactly
pub scale_value : (w h : ℕ) → max w h ≤ 2 ^ 24 → HasValue (scale_of w h) false (max w h) 512
scale_value w h l =
    subst (λ (x : Float). HasValue x false (max w h) 512) (sym (div_value (of_int binary32 (pos (max w h))) (max w h) (of_int_value (max w h) l)))
    (parts_value (max w h) l)

-- and so is iterations × scale
pub scaled_value : (n w h : ℕ) → n ≤ 2 ^ 24 → max w h ≤ 2 ^ 24 → n * max w h ≤ 2 ^ 24
    → HasValue (mul binary32 (of_int binary32 (pos n)) (scale_of w h)) false (n * max w h) 512
scaled_value n w h k l m =
    subst (λ (x : Float). HasValue x false (n * max w h) 512)
    (sym (mul_values binary32 (of_int binary32 (pos n)) (scale_of w h) n 1 (max w h) 512 (lit< tt) (lit< tt) (of_int_value n k) (scale_value w h l)))
    (parts_value (n * max w h) m)

-- the least whole number q that is not below y / e is that of any fraction x / d of the same value
module _ (x d y e q : ℕ) (D : 0 < d) (E : 0 < e) (same : x * e ≡ y * d) where
  ceil_is : y ≤ q * e → q * e < y + e → (x + (d - 1)) / d ≡ q
  ceil_is most least =
      let above : x ≤ q * d = le_of_mul-le-mul_right (omega (arith, mul-le-mul_right d most)) E in
      let under : q * d < x + d = lt_of_mul-lt-mul_right e (omega (arith, mul-lt-mul_of_pos_right least D)) in
      div-eq_of_lt-le d (omega arith) (omega arith)

-- in 512ths
parts_up : (a : ℕ) → (a ≤ (a + 511) / 512 * 512) × ((a + 511) / 512 * 512 < a + 512)
parts_up a = omega arith

-- cut to a whole number, the least one not below x
up_value : (x : Float) (a : ℕ) → T (fits binary32 x) → HasValue x false a 512 → a ≤ 2 ^ 24 → to_unsigned 64 (ceil_of x) ≡ (a + 511) / 512
up_value lib.Ieee.nan a t v l = elim v [ ]
up_value (lib.Ieee.inf _) a t v l = elim v [ ]
up_value (fin true m e) a t v l = absurd (true≢false v.0)
up_value (fin false m e) a t v l =
    cut_value 64 (ceil_of (fin false m e)) ((m * up e + (down e - 1)) / down e) 1 (lit< tt) (ceil_of_value m e t)
    ∙ ap (λ (z : ℕ). min (z / 1) (2 ^ 64 - 1)) (ceil_is (m * up e) (down e) a 512 ((a + 511) / 512) (down_pos e) (lit< tt) v.1 (parts_up a).0 (parts_up a).1)
    ∙ small ((a + 511) / 512) (omega arith)
  where
    small : (n : ℕ) → n ≤ 2 ^ 25 → min (n / 1) (2 ^ 64 - 1) ≡ n
    small n h = omega arith

-- passes by whole numbers
pub passes_are : (n w h : ℕ) → n ≤ 2 ^ 24 → max w h ≤ 2 ^ 24 → n * max w h ≤ 2 ^ 24 → passes_of n (scale_of w h) ≡ max ((n * max w h + 511) / 512) 1
passes_are n w h k l m =
    ap (λ (z : ℕ). max z 1)
    (up_value (mul binary32 (of_int binary32 (pos n)) (scale_of w h)) (n * max w h) (mul-fits binary32 (of_int binary32 (pos n)) (scale_of w h)) (scaled_value n w h k l m) m)

-- the passes of document 01's sides and iterations, and of one iteration of a fluvial run
pub record Counted (most n : ℕ) : Type 0 where
  pub some : 1 ≤ n
  pub few : n ≤ most

module _ (w h : ℕ) (W : w ≤ 4096) (H : h ≤ 4096) where
  pub thermal_passes_lem : (n : ℕ) → n ≤ 4096 → Counted 32768 (passes_of n (scale_of w h))
  thermal_passes_lem n l =
      let side : max w h ≤ 4096 = omega arith in
      let m : n * max w h ≤ 2 ^ 24 = mul-le-mul l side in
      subst (Counted 32768) (sym (passes_are n w h (omega arith) (omega arith) m)) (record { some = omega arith; few = omega arith })

  pub fluvial_passes : Counted 8 (passes_of 1 (scale_of w h))
  fluvial_passes =
      let side : max w h ≤ 4096 = omega arith in
      subst (Counted 8) (sym (passes_are 1 w h (lit≤ tt) (omega arith) (omega arith))) (record { some = omega arith; few = omega arith })
