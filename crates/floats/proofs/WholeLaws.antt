-- trunc, round and ceil: from 2^23 on every binary32 number is whole; below it the whole number is that of the cut fraction; the sign goes along.
use Rattle.std.proofs.Common.{◌≡◌, ℕ, zero, suc, ◌+◌, ◌-◌, ◌*◌, ◌/◌, ◌^◌, ◌<◌, ◌≤◌, min, Bool, true, false, cond, not, T, ltb, leb, ℤ, pos, negsuc, sym, refl, ap, ◌∙◌, subst, true≢false, lt_of_lt_of_le, le_of_lt, mul-le-mul_right, mul_comm, div-lt_iff_lt-mul, mul-pos, zero-mul, mul-one, div-mul-le_self, div-one, arith, lit≤, le→leb, lt→ltb, leb→le, pow_pos, ltb-false, ltb-true, leb-false, leb-true}
use mathlib.Core.Bool.{false≢true}
use native.Mathlib.Nat.{div-div-eq-div-mul, add-div_right, lt-div-mul-add, pow-succ', div-eq_of_lt-le, div-le_of_le-mul}
use lib.Dec.{nleb→lt}
use lib.Ieee.{Float, nan, inf, fin, Format, binary32, prec, emax, low, up, down, odd, units, round, neg, add, below, lt, le, fits, in_float, of_int, to_unsigned}
use lib.Ieee.Fits.{down_pos}
use lib.Ieee.Exact.{HasValue}
use lib.Ieee.Back.{round_whole}
use lib.Ieee.Scale.{round_same}
use lib.Ieee.Positive.{above, first_pos}
use Rattle.floats.specs.Stand.{whole_by, rule_of, trunc_of, round_of, ceil_of}
use Rattle.floats.proofs.ValueLaws.{Held, held, round_self, round_scaled, value_unique, lt_values, le_positive, cut_value, add_values}

-- a whole number up to 2 ^ 24 is a float
pub float_in : (n : ℕ) → n ≤ 2 ^ 24 → T (in_float binary32 (pos n))
unfolding in_float
float_in n h = le→leb n (2 ^ 24) h

-- ---- the sign goes along
odd_neg : (d : ℕ) (s : Bool) (q k l : ℕ) → odd d (not s) q k l ≡ neg (odd d s q k l)
unfolding odd neg
odd_neg d s zero k l = refl
odd_neg d s (suc q) k l = refl

units_neg : (f : Format) (s : Bool) (q k : ℕ) → units f (not s) q k ≡ neg (units f s q k)
unfolding units
units_neg f s q k = go (ltb (q * 2 ^ k) (2 ^ (low f + suc (emax f))))
  where
    go : (b : Bool) → cond b (odd (suc (prec f)) (not s) q k (low f)) (inf (not s)) ≡ neg (cond b (odd (suc (prec f)) s q k (low f)) (inf s))
    go true = odd_neg (suc (prec f)) s q k (low f)
    go false = unfold neg in refl

pub round_neg : (f : Format) (s : Bool) (a c : ℕ) → round f (not s) a c ≡ neg (round f s a c)
unfolding round
round_neg f s a c = units_neg f s _ _

pub neg_neg : (x : Float) → neg (neg x) ≡ x
unfolding neg
neg_neg nan = refl
neg_neg (inf true) = refl
neg_neg (inf false) = refl
neg_neg (fin true m e) = refl
neg_neg (fin false m e) = refl

pub whole_neg : (q : ℕ → ℕ → ℕ) (x : Float) → whole_by q (neg x) ≡ neg (whole_by q x)
unfolding whole_by neg
whole_neg q nan = refl
whole_neg q (inf s) = refl
whole_neg q (fin s m e) = round_neg binary32 s (q (m * up e) (down e)) 1

-- ---- neither above nor below zero: a zero or a NaN
zero_float : (s : Bool) (m : ℕ) (e : ℤ) → T (fits binary32 (fin s m e)) → m * up e ≡ 0 → fin s m e ≡ fin s 0 (pos 0)
zero_float s m e t h =
    value_unique binary32 (fin s m e) (fin s 0 (pos 0)) s 0 1 (pow_pos 0) t (unfold fits in tt)
    (refl, mul-one (m * up e) ∙ h ∙ sym (zero-mul (down e))) (refl, refl)

none : (a : ℕ) (z : ℕ) → z ≡ 0 → ltb z (a * 1) ≡ false → a ≡ 0
none a z h t = omega (arith, ltb-false z (a * 1) t)

none_below : (a z : ℕ) → z ≡ 0 → ltb 0 (a * 1 + z) ≡ false → a ≡ 0
none_below a z h t = omega (arith, ltb-false 0 (a * 1 + z) t)

-- so a g that keeps these keeps x
module _ (g : Float → Float) (n : nan ≡ g nan) (z : (s : Bool) → fin s 0 (pos 0) ≡ g (fin s 0 (pos 0))) where
  keeps : (s : Bool) (m : ℕ) (e : ℤ) → fin s m e ≡ fin s 0 (pos 0) → fin s m e ≡ g (fin s m e)
  keeps s m e h = h ∙ z s ∙ ap g (sym h)

  kept_zero : (x : Float) → T (fits binary32 x) → lt (fin false 0 (pos 0)) x ≡ false → lt x (fin false 0 (pos 0)) ≡ false → x ≡ g x
  unfolding lt
  kept_zero nan t p q = n
  kept_zero (inf true) t p q = absurd (true≢false q)
  kept_zero (inf false) t p q = absurd (true≢false p)
  kept_zero (fin true m e) t p q = keeps true m e (zero_float true m e t (none_below (m * up e) (0 * down e) (zero-mul (down e)) q))
  kept_zero (fin false m e) t p q = keeps false m e (zero_float false m e t (none (m * up e) (0 * down e) (zero-mul (down e)) p))

pub whole_zero : (nearest : Bool) (x : Float) → T (fits binary32 x) → lt (fin false 0 (pos 0)) x ≡ false → lt x (fin false 0 (pos 0)) ≡ false → x ≡ whole_by (rule_of nearest) x
unfolding whole_by round
whole_zero true = kept_zero (whole_by (rule_of true)) refl (λ (s : Bool). refl)
whole_zero false = kept_zero (whole_by (rule_of false)) refl (λ (s : Bool). refl)

-- above zero, by the two tests
some : (a z : ℕ) → z ≡ 0 → ltb z (a * 1) ≡ true → 0 < a
some a z h t = omega (arith, ltb-true z (a * 1) t)

some_below_lem : (a z : ℕ) → z ≡ 0 → ltb 0 (a * 1 + z) ≡ true → 0 < a
some_below_lem a z h t = omega (arith, ltb-true 0 (a * 1 + z) t)

no_less : (a z : ℕ) → z ≡ 0 → ltb (a * 1) z ≡ true → ⊥
no_less a z h t = omega (arith, ltb-true (a * 1) z t)

pub above_zero : (x : Float) → lt (fin false 0 (pos 0)) x ≡ true → T (above x)
unfolding lt
above_zero nan p = absurd (false≢true p)
above_zero (inf true) p = absurd (false≢true p)
above_zero (inf false) p = tt
above_zero (fin true m e) p = absurd (false≢true p)
above_zero (fin false m e) p = lt→ltb 0 m (first_pos m (up e) (some (m * up e) (0 * down e) (zero-mul (down e)) p))

pub below_zero : (x : Float) → lt x (fin false 0 (pos 0)) ≡ true → T (above (neg x))
unfolding lt neg
below_zero nan p = absurd (false≢true p)
below_zero (inf true) p = tt
below_zero (inf false) p = absurd (false≢true p)
below_zero (fin true m e) p = lt→ltb 0 m (first_pos m (up e) (some_below_lem (m * up e) (0 * down e) (zero-mul (down e)) p))
below_zero (fin false m e) p = absurd (no_less (m * up e) (0 * down e) (zero-mul (down e)) p)

-- ---- from 2^23 on a float is whole
abbrev pub big : Float
big = fin false 1 (pos 23)

big_test : (m : ℕ) (e : ℤ) → le big (fin false m e) ≡ leb (2 ^ 23 * down e) (m * up e)
big_test m e = le_positive big (fin false m e) (2 ^ 23) 1 (m * up e) (down e) (pow_pos 0) (down_pos e) (refl, refl) (refl, refl) ∙ ap (leb (2 ^ 23 * down e)) (mul-one (m * up e))

at_least : (m : ℕ) (e : ℤ) → le big (fin false m e) ≡ true → 2 ^ 23 * down e ≤ m * up e
at_least m e h = leb-true (2 ^ 23 * down e) (m * up e) (sym (big_test m e) ∙ h)

under : (m : ℕ) (e : ℤ) → le big (fin false m e) ≡ false → m * up e < 2 ^ 23 * down e
under m e h = leb-false (2 ^ 23 * down e) (m * up e) (sym (big_test m e) ∙ h)

whole_above : (m : ℕ) (e : ℤ) → Held binary32 m e → 2 ^ 23 * down e ≤ m * up e → down e ≡ 1
whole_above m (pos k) h g = refl
whole_above m (negsuc k) h g = absurd (no (2 ^ k) (2 ^ suc k) (pow_pos k) (pow-succ' 2 k) h.few g)
  where
    no : (p q : ℕ) → 0 < p → q ≡ 2 * p → m < 2 ^ 24 → 2 ^ 23 * q ≤ m * 1 → ⊥
    no p q P Q a b = omega arith

-- q is the whole number that a cut gives of a numerator and a denominator
stays : (s : Bool) (m : ℕ) (e : ℤ) (q : ℕ → ℕ) → T (fits binary32 (fin s m e)) → q 1 ≡ m * up e → 2 ^ 23 * down e ≤ m * up e → round binary32 s (q (down e)) 1 ≡ fin s m e
stays s m e q t h g =
    let d : down e ≡ 1 = whole_above m e (held binary32 s m e t) g in
    ap (λ (z : ℕ). round binary32 s (q z) 1) d ∙ ap (λ (z : ℕ). round binary32 s z 1) h ∙ ap (round binary32 s (m * up e)) (sym d) ∙ round_self binary32 s m e t

half_up : (a : ℕ) → (2 * a + 1) / (2 * 1) ≡ a
half_up a = omega arith

up_none : (a : ℕ) → (a + (1 - 1)) / 1 ≡ a
up_none a = omega arith

-- either rule keeps a whole number
rule_one : (nearest : Bool) (a : ℕ) → rule_of nearest a 1 ≡ a
rule_one true a = half_up a
rule_one false a = div-one a

pub whole_big : (nearest : Bool) (x : Float) → T (above x) → T (fits binary32 x) → le big x ≡ true → x ≡ whole_by (rule_of nearest) x
unfolding whole_by
whole_big nearest (inf s) a t h = refl
whole_big nearest (fin false m e) a t h = sym (stays false m e (rule_of nearest (m * up e)) t (rule_one nearest (m * up e)) (at_least m e h))
whole_big nearest nan a t h = elim a [ ]
whole_big nearest (fin true m e) a t h = elim a [ ]

-- ---- below 2^23 the cut fraction is a whole number that binary32 holds
-- t is the cut of a / d, which is below 2^23
less_cut : (a d : ℕ) → 0 < d → a < 2 ^ 23 * d → a / d < 2 ^ 23
less_cut a d D h = (div-lt_iff_lt-mul D).1 h

uncapped : (t : ℕ) → t < 2 ^ 24 → min t (2 ^ 64 - 1) ≡ t
uncapped t h = omega arith

-- a whole number up to 2^24 as a float
as_float : (t : ℕ) → t ≤ 2 ^ 24 → T (in_float binary32 (pos t)) × (of_int binary32 (pos t) ≡ round binary32 false t 1)
unfolding in_float of_int
as_float t h = (le→leb t (2 ^ 24) h, refl)

wider : (t : ℕ) → t < 2 ^ 23 → t < 2 ^ 24
wider t h = omega arith

pub trunc_of_cut : (x : Float) → T (above x) → le big x ≡ false → (t : ℕ) → t ≡ to_unsigned 64 x → T (in_float binary32 (pos t)) × (of_int binary32 (pos t) ≡ trunc_of x)
unfolding whole_by
trunc_of_cut (inf false) a h t r = absurd (true≢false (unfold le in h))
trunc_of_cut (fin false m e) a h t r =
    let l : m * up e / down e < 2 ^ 24 = wider (m * up e / down e) (less_cut (m * up e) (down e) (down_pos e) (under m e h)) in
    let is : t ≡ m * up e / down e = r ∙ cut_value 64 (fin false m e) (m * up e) (down e) (down_pos e) (refl, refl) ∙ uncapped (m * up e / down e) l in
    subst (λ (z : ℕ). T (in_float binary32 (pos z)) × (of_int binary32 (pos z) ≡ round binary32 false (m * up e / down e) 1)) (sym is) (as_float (m * up e / down e) (le_of_lt l))
trunc_of_cut nan a h t r = elim a [ ]
trunc_of_cut (inf true) a h t r = elim a [ ]
trunc_of_cut (fin true m e) a h t r = elim a [ ]

-- x + x is exact, and its cut, one more, halved, is the nearest whole number
doubled : (m : ℕ) (e : ℤ) → Held binary32 m e → m * up e < 2 ^ 23 * down e → HasValue (add binary32 (fin false m e) (fin false m e)) false (2 * (m * up e)) (down e)
doubled m e h g =
    let a = m * up e in
    let d = down e in
    subst (λ (z : Float). HasValue z false (2 * a) d)
    (sym (add_values binary32 (fin false m e) (fin false m e) false a d a d (down_pos e) (down_pos e) (refl, refl) (refl, refl)
    ∙ round_same binary32 false (a * d + a * d) (d * d) (2 * a) d (mul-pos (down_pos e) (down_pos e)) (down_pos e) (twice a d)))
    (round_scaled binary32 false m e 1 (2 * a) d h (down_pos e) (lt_of_lt_of_le (twice_lt a d g) (mul-le-mul_right d (lit≤ tt))) (ap (λ (z : ℕ). z * d) (mul_comm 2 a)))
  where
    twice : (a d : ℕ) → (a * d + a * d) * d ≡ 2 * a * (d * d)
    twice a d = omega arith

    twice_lt : (a d : ℕ) → a < 2 ^ 23 * d → a * 2 < 2 ^ 24 * d
    twice_lt a d h = omega arith

half_of : (a d : ℕ) → 0 < d → (2 * a / d + 1) / 2 ≡ (2 * a + d) / (2 * d)
half_of a d D = ap (λ (z : ℕ). z / 2) (sym (add-div_right (2 * a) D)) ∙ div-div-eq-div-mul (2 * a + d) d 2 ∙ ap (λ (z : ℕ). (2 * a + d) / z) (mul_comm d 2)

pub round_of_cut : (x : Float) → T (above x) → T (fits binary32 x) → le big x ≡ false → (t : ℕ) → t ≡ to_unsigned 64 (add binary32 x x)
    → (t < 2 ^ 24) × T (in_float binary32 (pos ((t + 1) / 2))) × (of_int binary32 (pos ((t + 1) / 2)) ≡ round_of x)
unfolding whole_by
round_of_cut nan a f h t r = elim a [ ]
round_of_cut (inf true) a f h t r = elim a [ ]
round_of_cut (fin true m e) a f h t r = elim a [ ]
round_of_cut (inf false) a f h t r = absurd (true≢false (unfold le in h))
round_of_cut (fin false m e) a f h t r =
    let n = 2 * (m * up e) / down e in
    let g : m * up e < 2 ^ 23 * down e = under m e h in
    let l : n < 2 ^ 24 = (div-lt_iff_lt-mul (down_pos e)).1 (twice_lt (m * up e) (down e) g) in
    let is : t ≡ n = r ∙ cut_value 64 (add binary32 (fin false m e) (fin false m e)) (2 * (m * up e)) (down e) (down_pos e) (doubled m e (held binary32 false m e f) g) ∙ uncapped n l in
    let y = as_float ((n + 1) / 2) (half_le n l) in
    subst (λ (z : ℕ). (z < 2 ^ 24) × T (in_float binary32 (pos ((z + 1) / 2))) × (of_int binary32 (pos ((z + 1) / 2)) ≡ round binary32 false ((2 * (m * up e) + down e) / (2 * down e)) 1)) (sym is)
    (l, y.0, y.1 ∙ ap (λ (z : ℕ). round binary32 false z 1) (half_of (m * up e) (down e) (down_pos e)))
  where
    twice_lt : (a d : ℕ) → a < 2 ^ 23 * d → 2 * a < 2 ^ 24 * d
    twice_lt a d h = omega arith

    half_le : (n : ℕ) → n < 2 ^ 24 → (n + 1) / 2 ≤ 2 ^ 24
    half_le n h = omega arith

-- ---- the rounding in the definitions is exact: trunc, round and ceil have the whole number as their value, whatever the finite float
module _ (s : Bool) (m : ℕ) (e : ℤ) (t : T (fits binary32 (fin s m e))) where
  whole_value : (q : ℕ → ℕ) → q 1 ≡ m * up e → (m * up e < 2 ^ 23 * down e → q (down e) ≤ 2 ^ 24) → HasValue (round binary32 s (q (down e)) 1) s (q (down e)) 1
  whole_value q one small = go (leb (2 ^ 23 * down e) (m * up e)) (leb→le (2 ^ 23 * down e) (m * up e)) (nleb→lt (2 ^ 23 * down e) (m * up e))
    where
      go : (b : Bool) → (T b → 2 ^ 23 * down e ≤ m * up e) → (T (not b) → m * up e < 2 ^ 23 * down e) → HasValue (round binary32 s (q (down e)) 1) s (q (down e)) 1
      go true h k =
          let d : down e ≡ 1 = whole_above m e (held binary32 s m e t) (h tt) in
          subst (λ (x : Float). HasValue x s (q (down e)) 1) (sym (stays s m e q t one (h tt)))
          (refl, mul-one (m * up e) ∙ sym one ∙ ap q (sym d) ∙ sym (mul-one (q (down e))) ∙ ap (λ (z : ℕ). q (down e) * z) (sym d))
      go false h k = round_whole binary32 s (q (down e)) (small (k tt))

  pub trunc_of_value : HasValue (trunc_of (fin s m e)) s (m * up e / down e) 1
  unfolding whole_by
  trunc_of_value = whole_value (λ (d : ℕ). m * up e / d) (div-one (m * up e)) (λ h. le_of_lt (wider (m * up e / down e) (less_cut (m * up e) (down e) (down_pos e) h)))

pub ceil_of_value : (m : ℕ) (e : ℤ) → T (fits binary32 (fin false m e)) → HasValue (ceil_of (fin false m e)) false ((m * up e + (down e - 1)) / down e) 1
unfolding ceil_of
ceil_of_value m e t = whole_value false m e t (λ (d : ℕ). (m * up e + (d - 1)) / d) (up_none (m * up e)) (λ h. div-le_of_le-mul (down e) (most (m * up e) (down e) h))
  where
    most : (a d : ℕ) → a < 2 ^ 23 * d → a + (d - 1) ≤ d * 2 ^ 24
    most a d h = omega arith

-- ---- ceil: one more than the cut, unless nothing was cut
module _ (a d : ℕ) (D : 0 < d) where
  one_more : a / d * d < a → (a + (d - 1)) / d ≡ a / d + 1
  one_more h = div-eq_of_lt-le d (lower (a / d) h) (upper (a / d) (lt-div-mul-add D))
    where
      lower : (t : ℕ) → t * d < a → (t + 1) * d ≤ a + (d - 1)
      lower t h = omega arith

      upper : (t : ℕ) → a < t * d + d → a + (d - 1) < (t + 1 + 1) * d
      upper t h = omega arith

  no_more : a ≤ a / d * d → (a + (d - 1)) / d ≡ a / d
  no_more h = div-eq_of_lt-le d (lower (a / d) (div-mul-le_self a d)) (upper (a / d) h)
    where
      lower : (t : ℕ) → t * d ≤ a → t * d ≤ a + (d - 1)
      lower t h = omega arith

      upper : (t : ℕ) → a ≤ t * d → a + (d - 1) < (t + 1) * d
      upper t h = omega arith

-- the cut against the float itself, and one more
module _ (s : Bool) (m : ℕ) (e : ℤ) (t : T (fits binary32 (fin s m e))) where
  cut_lt : lt (trunc_of (fin s m e)) (fin s m e) ≡ below s (m * up e / down e * down e) s (m * up e * 1)
  cut_lt = lt_values (trunc_of (fin s m e)) (fin s m e) s s (m * up e / down e) 1 (m * up e) (down e) (pow_pos 0) (down_pos e) (trunc_of_value s m e t) (refl, refl)

less_than : (p q : ℕ) → ltb p (q * 1) ≡ true → p < q
less_than p q l = omega (arith, ltb-true p (q * 1) l)

not_less : (p q : ℕ) → ltb p (q * 1) ≡ false → q ≤ p
not_less p q l = omega (arith, ltb-false p (q * 1) l)

never_less : (p q : ℕ) → p ≤ q → ltb (q * 1) p ≡ true → ⊥
never_less p q k l = omega (arith, ltb-true (q * 1) p l)

ceil_up : (x : Float) → T (fits binary32 x) → lt (trunc_of x) x ≡ true → add binary32 (trunc_of x) (fin false 1 (pos 0)) ≡ ceil_of x
unfolding ceil_of
ceil_up nan t h = absurd (false≢true (unfold whole_by lt in h))
ceil_up (inf true) t h = absurd (false≢true (unfold whole_by lt in h))
ceil_up (inf false) t h = absurd (false≢true (unfold whole_by lt in h))
ceil_up (fin true m e) t h = absurd (never_less (m * up e / down e * down e) (m * up e) (div-mul-le_self (m * up e) (down e)) (sym (cut_lt true m e t) ∙ h))
ceil_up (fin false m e) t h =
    let q = m * up e / down e in
    add_values binary32 (trunc_of (fin false m e)) (fin false 1 (pos 0)) false q 1 1 1 (pow_pos 0) (pow_pos 0) (trunc_of_value false m e t) (refl, refl)
    ∙ ap (λ (z : ℕ). round binary32 false z 1) (ones q ∙ sym (one_more (m * up e) (down e) (down_pos e) (less_than (q * down e) (m * up e) (sym (cut_lt false m e t) ∙ h))))
  where
    ones : (q : ℕ) → q * 1 + 1 ≡ q + 1
    ones q = omega arith

ceil_same : (x : Float) → T (fits binary32 x) → lt (trunc_of x) x ≡ false → trunc_of x ≡ ceil_of x
unfolding whole_by ceil_of
ceil_same nan t h = refl
ceil_same (inf s) t h = refl
ceil_same (fin true m e) t h = refl
ceil_same (fin false m e) t h =
    ap (λ (z : ℕ). round binary32 false z 1) (sym (no_more (m * up e) (down e) (down_pos e) (not_less (m * up e / down e * down e) (m * up e) (sym (cut_lt false m e t) ∙ h))))

-- t is the cut of x
pub ceil_of_up : (x t : Float) → T (fits binary32 x) → t ≡ trunc_of x → lt t x ≡ true → add binary32 t (fin false 1 (pos 0)) ≡ ceil_of x
ceil_of_up x t f e h = ap (λ (z : Float). add binary32 z (fin false 1 (pos 0))) e ∙ ceil_up x f (ap (λ (z : Float). lt z x) (sym e) ∙ h)

pub ceil_of_same : (x t : Float) → T (fits binary32 x) → t ≡ trunc_of x → lt t x ≡ false → t ≡ ceil_of x
ceil_of_same x t f e h = e ∙ ceil_same x f (ap (λ (z : Float). lt z x) (sym e) ∙ h)
