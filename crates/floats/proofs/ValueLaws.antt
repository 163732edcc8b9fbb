-- A finite float as the fraction that it equals (`HasValue x s a c`, lib.Ieee.Exact): a format writes each fraction in one way, what it holds rounds to
-- itself, and comparisons and cuts are those of the fractions.
use Rattle.std.proofs.Common.{◌≡◌, ℕ, zero, suc, ◌+◌, ◌-◌, ◌*◌, ◌/◌, ◌%◌, ◌^◌, ◌<◌, ◌≤◌, min, Bool, true, false, cond, ◌&&◌, ◌||◌, T, eqb, ltb, leb, ℤ, pos, negsuc, sym, refl, ap, ◌∙◌, subst, true≢false, le_of_eq, lt_of_lt_of_le, le_of_suc-le-suc, lt_of_le_of_lt, lt_irrefl, mul_assoc, mul_comm, div-lt_iff_lt-mul, add-mul, lt_of_mul-lt-mul_right, mul-lt-mul_of_pos_right, mul-pos, one-mul, lt_of_not-le, le-div_iff_mul-le, zero-mul, mul-one, sub-add_cancel, mul_right_comm, mul_left_comm, arith, eqb→eq, ltb→lt, lt→ltb, leb→le, pow_pos, pow-add, ltb-false, ltb-true, eqb-true, le-leb}
use mathlib.Core.Bool.{beq, and-true, false≢true}
use native.Mathlib.Nat.{min-le_left, eq_of_mul-eq-mul_right}
use borrow.Author.Tests.{eqb-false, lt-leb}
use lib.Pow.{pow-lt}
use lib.Ieee.{Float, nan, inf, fin, Format, binary32, prec, emax, low, up, down, size, hid, top, round, sum, add, below, level, lt, eq, le, fits, of_bits, to_bits, of_int, to_unsigned}
use lib.Ieee.Fits.{down_pos, eq→eqb, and_l, and_r, round-fits}
use lib.Ieee.Exact.{HasValue, round_exact}
use lib.Ieee.Back.{round_whole}
use lib.Ieee.Nearest.{div_same}
use lib.Ieee.Bits.{of_bits-to_bits}
use lib.Ieee.Scale.{round_same}
use Rattle.floats.specs.Stand.{IndexInside}

-- a test that passed, as `good` has it of a parameter
pub holds : {b : Bool} → b ≡ true → T b
holds h = subst T (sym h) tt

-- ---- one way to write each value: the bits are those of the fraction
abbrev bits_at : Format → Bool → ℕ → ℕ
bits_at f s n = cond s (top f) 0 + (size n - prec f) * hid f + n / 2 ^ (size n - prec f)

bits_of_value : (f : Format) (x : Float) (s : Bool) (a c : ℕ) → 0 < c → HasValue x s a c → to_bits f x ≡ bits_at f s (a * 2 ^ low f / c)
unfolding to_bits
bits_of_value f (fin t m e) s a c C v =
    ap (λ (z : Bool). bits_at f z (m * up e * 2 ^ low f / down e)) v.0
    ∙ ap (bits_at f s) (div_same (m * up e * 2 ^ low f) (down e) (a * 2 ^ low f) c (down_pos e) C (mul_right_comm (m * up e) (2 ^ low f) c ∙ ap (λ (z : ℕ). z * 2 ^ low f) v.1 ∙ mul_right_comm a (down e) (2 ^ low f)))
bits_of_value f nan s a c C v = elim v [ ]
bits_of_value f (inf _) s a c C v = elim v [ ]

pub value_unique : (f : Format) (x y : Float) (s : Bool) (a c : ℕ) → 0 < c → T (fits f x) → T (fits f y) → HasValue x s a c → HasValue y s a c → x ≡ y
value_unique f x y s a c C p q v w =
    sym (of_bits-to_bits f x p) ∙ ap (of_bits f) (bits_of_value f x s a c C v ∙ sym (bits_of_value f y s a c C w)) ∙ of_bits-to_bits f y q

-- ---- what a format holds, in its bounds and in units of its smallest value
pub record Held (f : Format) (m : ℕ) (e : ℤ) : Type 0 where
  pub few : m < 2 ^ prec f
  pub fine : down e ≤ 2 ^ low f
  pub within : m * up e < 2 ^ suc (emax f) * down e

flat : (e : ℤ) → up e * down e ≡ 1 → down e ≤ 1
flat (pos k) h = le_of_eq refl
flat (negsuc k) h = le_of_eq (sym (one-mul (2 ^ suc k)) ∙ h)

pub held : (f : Format) (s : Bool) (m : ℕ) (e : ℤ) → T (fits f (fin s m e)) → Held f m e
unfolding fits
held f s zero e t = record {
  few = pow_pos (prec f);
  fine = least (2 ^ low f) (down e) (pow_pos (low f)) (flat e (eqb→eq (up e * down e) 1 t));
  within = subst (λ (z : ℕ). z < 2 ^ suc (emax f) * down e) (sym (zero-mul (up e))) (mul-pos (pow_pos (suc (emax f))) (down_pos e));
}
  where
    least : (p d : ℕ) → 0 < p → d ≤ 1 → d ≤ p
    least p d h k = omega arith
held f s (suc m) e t =
    let a : Bool = eqb (suc m % 2) 1 in
    let b : Bool = ltb (suc m) (2 ^ prec f) in
    let c : Bool = leb (down e) (2 ^ low f) in
    let d : Bool = ltb (suc m * up e) (2 ^ suc (emax f) * down e) in
    record {
      few = ltb→lt (suc m) (2 ^ prec f) (and_r a b (and_l (a && b) c (and_l (a && b && c) d t)));
      fine = leb→le (down e) (2 ^ low f) (and_r (a && b) c (and_l (a && b && c) d t));
      within = ltb→lt (suc m * up e) (2 ^ suc (emax f) * down e) (and_r (a && b && c) d t);
    }

pub pow_back : (a l : ℕ) → 2 ^ a ≤ 2 ^ l → a ≤ l
pow_back a l h = le_of_suc-le-suc (lt_of_not-le (λ (g : suc l ≤ a). lt_irrefl (2 ^ l) (lt_of_lt_of_le (pow-lt g) h)))

-- the powers of two in a product
pub gather : (s a b : ℕ) → s * 2 ^ a * 2 ^ b ≡ s * 2 ^ (a + b)
gather s a b = mul_assoc s (2 ^ a) (2 ^ b) ∙ ap (λ (z : ℕ). s * z) (sym (pow-add 2 a b))

in_units : (l m : ℕ) (e : ℤ) → down e ≤ 2 ^ l → (j : ℕ) × (m * up e * 2 ^ l ≡ m * 2 ^ j * down e)
in_units l m (pos k) h = (k + l, gather m k l ∙ sym (mul-one (m * 2 ^ (k + l))))
in_units l m (negsuc k) h = (
  l - suc k,
  ap (λ (z : ℕ). z * 2 ^ l) (mul-one m)
      ∙ ap (λ (z : ℕ). m * 2 ^ z) (sym (sub-add_cancel (pow_back (suc k) l h)))
      ∙ sym (gather m (l - suc k) (suc k)),
)

-- ---- what a format holds, times a power of two, is exact as long as it does not overflow
pub round_scaled : (f : Format) (s : Bool) (m : ℕ) (e : ℤ) (t num den : ℕ) → Held f m e → 0 < den → m * up e * 2 ^ t < 2 ^ suc (emax f) * down e
    → num * down e ≡ m * up e * 2 ^ t * den → HasValue (round f s num den) s num den
round_scaled f s m e t num den h D fine k =
    let l = low f in
    let u = in_units l m e h.fine in
    let j = u.0 in
    let scaled : m * up e * 2 ^ t * 2 ^ l ≡ m * 2 ^ (j + t) * down e =
    mul_right_comm (m * up e) (2 ^ t) (2 ^ l)
    ∙ ap (λ (z : ℕ). z * 2 ^ t) u.1
    ∙ mul_right_comm (m * 2 ^ j) (down e) (2 ^ t)
    ∙ ap (λ (z : ℕ). z * down e) (gather m j t) in
    let under : m * 2 ^ (j + t) * down e < 2 ^ (l + suc (emax f)) * down e =
    subst (λ (z : ℕ). z < 2 ^ (l + suc (emax f)) * down e) scaled
    (subst (λ (z : ℕ). m * up e * 2 ^ t * 2 ^ l < z) (mul_right_comm (2 ^ suc (emax f)) (down e) (2 ^ l) ∙ ap (λ (z : ℕ). z * down e) (mul_comm (2 ^ suc (emax f)) (2 ^ l) ∙ sym (pow-add 2 l (suc (emax f)))))
    (mul-lt-mul_of_pos_right fine (pow_pos l))) in
    round_exact f s num den m (j + t) D h.few (lt_of_mul-lt-mul_right (down e) under)
    (eq_of_mul-eq-mul_right (down e) (down_pos e) (num * 2 ^ l) (m * 2 ^ (j + t) * den)
    (mul_right_comm num (2 ^ l) (down e)
    ∙ ap (λ (z : ℕ). z * 2 ^ l) k
    ∙ mul_right_comm (m * up e * 2 ^ t) den (2 ^ l)
    ∙ ap (λ (z : ℕ). z * den) scaled
    ∙ mul_right_comm (m * 2 ^ (j + t)) (down e) den))

-- what a format holds rounds to itself
pub round_self : (f : Format) (s : Bool) (m : ℕ) (e : ℤ) → T (fits f (fin s m e)) → round f s (m * up e) (down e) ≡ fin s m e
round_self f s m e t =
    let h = held f s m e t in
    value_unique f (round f s (m * up e) (down e)) (fin s m e) s (m * up e) (down e) (down_pos e) (round-fits f s (m * up e) (down e)) t
    (round_scaled f s m e 0 (m * up e) (down e) h (down_pos e) (subst (λ (z : ℕ). z < 2 ^ suc (emax f) * down e) (sym (mul-one (m * up e))) h.within) (ap (λ (z : ℕ). z * down e) (sym (mul-one (m * up e)))))
    (refl, refl)

-- ---- comparisons, by any fractions that the two floats equal
pub same_test : (b c : Bool) → (T b → T c) → (T c → T b) → b ≡ c
same_test true true p q = refl
same_test true false p q = absurd (p tt)
same_test false true p q = absurd (q tt)
same_test false false p q = refl

pub same_lt : (a b u v : ℕ) → (a < b → u < v) → (u < v → a < b) → ltb a b ≡ ltb u v
same_lt a b u v f g = same_test (ltb a b) (ltb u v) (λ t. lt→ltb u v (f (ltb→lt a b t))) (λ t. lt→ltb a b (g (ltb→lt u v t)))

pub same_eq : (a b u v : ℕ) → (a ≡ b → u ≡ v) → (u ≡ v → a ≡ b) → eqb a b ≡ eqb u v
same_eq a b u v f g = same_test (eqb a b) (eqb u v) (λ t. eq→eqb (f (eqb→eq a b t))) (λ t. eq→eqb (g (eqb→eq u v t)))

-- p and q are A and B, scaled alike
module _ (p q A B K L : ℕ) (u : p * K ≡ A * L) (v : q * K ≡ B * L) (P : 0 < K) (Q : 0 < L) where
  scaled_ltb : ltb p q ≡ ltb A B
  scaled_ltb =
      same_lt p q A B
      (λ l. lt_of_mul-lt-mul_right L (subst (λ (z : ℕ). z < B * L) u (subst (λ (z : ℕ). p * K < z) v (mul-lt-mul_of_pos_right l P))))
      (λ l. lt_of_mul-lt-mul_right K (subst (λ (z : ℕ). z < q * K) (sym u) (subst (λ (z : ℕ). A * L < z) (sym v) (mul-lt-mul_of_pos_right l Q))))

  scaled_eqb : eqb p q ≡ eqb A B
  scaled_eqb =
      same_eq p q A B
      (λ e. eq_of_mul-eq-mul_right L Q A B (sym u ∙ ap (λ (z : ℕ). z * K) e ∙ v))
      (λ e. eq_of_mul-eq-mul_right K P p q (u ∙ ap (λ (z : ℕ). z * L) e ∙ sym v))

scaled_zero : (p A K L : ℕ) → p * K ≡ A * L → 0 < K → 0 < L → eqb p 0 ≡ eqb A 0
scaled_zero p A K L u P Q = scaled_eqb p 0 A 0 K L u (zero-mul K ∙ sym (zero-mul L)) P Q

pub below_scaled : (s t : Bool) (p q A B K L : ℕ) → p * K ≡ A * L → q * K ≡ B * L → 0 < K → 0 < L → below s p t q ≡ below s A t B
below_scaled false false p q A B K L u v P Q = scaled_ltb p q A B K L u v P Q
below_scaled false true p q A B K L u v P Q = refl
below_scaled true false p q A B K L u v P Q = scaled_ltb 0 (p + q) 0 (A + B) K L (zero-mul K ∙ sym (zero-mul L)) (add-mul p q K ∙ ap (λ (z : ℕ). z + q * K) u ∙ ap (λ (z : ℕ). A * L + z) v ∙ sym (add-mul A B L)) P Q
below_scaled true true p q A B K L u v P Q = scaled_ltb q p B A K L v u P Q

pub level_scaled : (s t : Bool) (p q A B K L : ℕ) → p * K ≡ A * L → q * K ≡ B * L → 0 < K → 0 < L → level s p t q ≡ level s A t B
level_scaled s t p q A B K L u v P Q =
    ap (λ (z : Bool). z && (beq s t || eqb p 0)) (scaled_eqb p q A B K L u v P Q) ∙ ap (λ (z : Bool). eqb A B && (beq s t || z)) (scaled_zero p A K L u P Q)

-- x / g is a / c, so x * h is a * d scaled by (c * d) / (g * h)
cross : (x g h a c d : ℕ) → x * c ≡ a * g → x * h * (c * d) ≡ a * d * (g * h)
cross x g h a c d v = simp (mul_assoc, mul_comm, mul_left_comm) (simp (mul_assoc, mul_comm, mul_left_comm) at (ap (λ (z : ℕ). z * (h * d)) v))

cross_r : (y g h b c d : ℕ) → y * d ≡ b * h → y * g * (c * d) ≡ b * c * (g * h)
cross_r y g h b c d v = simp (mul_assoc, mul_comm, mul_left_comm) (simp (mul_assoc, mul_comm, mul_left_comm) at (ap (λ (z : ℕ). z * (g * c)) v))

-- a comparison that says the same of numbers scaled alike says of two finite floats what it says of any fractions that they equal
by_values : (test : Bool → ℕ → Bool → ℕ → Bool) → ((s t : Bool) (p q A B K L : ℕ) → p * K ≡ A * L → q * K ≡ B * L → 0 < K → 0 < L → test s p t q ≡ test s A t B)
    → (s' t' : Bool) (m n : ℕ) (e g : ℤ) (s t : Bool) (a c b d : ℕ) → 0 < c → 0 < d → HasValue (fin s' m e) s a c → HasValue (fin t' n g) t b d
    → test s' (m * up e * down g) t' (n * up g * down e) ≡ test s (a * d) t (b * c)
by_values test scaled s' t' m n e g s t a c b d C D v w =
    ap (λ (z : Bool). test z (m * up e * down g) t' (n * up g * down e)) v.0
    ∙ ap (λ (z : Bool). test s (m * up e * down g) z (n * up g * down e)) w.0
    ∙ scaled s t (m * up e * down g) (n * up g * down e) (a * d) (b * c) (c * d) (down e * down g)
    (cross (m * up e) (down e) (down g) a c d v.1) (cross_r (n * up g) (down e) (down g) b c d w.1) (mul-pos C D) (mul-pos (down_pos e) (down_pos g))

pub lt_values : (x y : Float) (s t : Bool) (a c b d : ℕ) → 0 < c → 0 < d → HasValue x s a c → HasValue y t b d → lt x y ≡ below s (a * d) t (b * c)
unfolding lt
lt_values (fin s' m e) (fin t' n g) s t a c b d C D v w = by_values below below_scaled s' t' m n e g s t a c b d C D v w
lt_values nan y s t a c b d C D v w = elim v [ ]
lt_values (inf _) y s t a c b d C D v w = elim v [ ]
lt_values (fin s' m e) nan s t a c b d C D v w = elim w [ ]
lt_values (fin s' m e) (inf _) s t a c b d C D v w = elim w [ ]

pub eq_values : (x y : Float) (s t : Bool) (a c b d : ℕ) → 0 < c → 0 < d → HasValue x s a c → HasValue y t b d → eq x y ≡ level s (a * d) t (b * c)
unfolding eq
eq_values (fin s' m e) (fin t' n g) s t a c b d C D v w = by_values level level_scaled s' t' m n e g s t a c b d C D v w
eq_values nan y s t a c b d C D v w = elim v [ ]
eq_values (inf _) y s t a c b d C D v w = elim v [ ]
eq_values (fin s' m e) nan s t a c b d C D v w = elim w [ ]
eq_values (fin s' m e) (inf _) s t a c b d C D v w = elim w [ ]

pub le_values : (x y : Float) (s t : Bool) (a c b d : ℕ) → 0 < c → 0 < d → HasValue x s a c → HasValue y t b d
    → le x y ≡ (below s (a * d) t (b * c) || level s (a * d) t (b * c))
unfolding le
le_values x y s t a c b d C D v w =
    ap (λ (z : Bool). z || eq x y) (lt_values x y s t a c b d C D v w) ∙ ap (λ (z : Bool). below s (a * d) t (b * c) || z) (eq_values x y s t a c b d C D v w)

-- less or equal is at most
pub or_leb : (a b : ℕ) → (ltb a b || eqb a b) ≡ leb a b
or_leb a b = go (ltb a b) (eqb a b) refl refl
  where
    go : (u v : Bool) → ltb a b ≡ u → eqb a b ≡ v → (u || v) ≡ leb a b
    go true v h k = sym (le-leb a b (omega (arith, ltb-true)))
    go false true h k = sym (le-leb a b (omega (arith, eqb-true)))
    go false false h k = sym (lt-leb a b (omega (arith, ltb-false, eqb-false)))

-- of two that are not negative `le` is one test
pub one_leb : (a b : ℕ) → (ltb a b || (eqb a b && true)) ≡ leb a b
one_leb a b = ap (λ (z : Bool). ltb a b || z) (and-true (eqb a b)) ∙ or_leb a b

pub le_positive : (x y : Float) (a c b d : ℕ) → 0 < c → 0 < d → HasValue x false a c → HasValue y false b d → le x y ≡ leb (a * d) (b * c)
le_positive x y a c b d C D v w = le_values x y false false a c b d C D v w ∙ one_leb (a * d) (b * c)

-- ---- a whole number up to 2^24 as a float, and a float against one
pub of_int_value : (n : ℕ) → n ≤ 2 ^ 24 → HasValue (of_int binary32 (pos n)) false n 1
unfolding of_int
of_int_value n h = round_whole binary32 false n h

module _ (m : ℕ) (e : ℤ) (n : ℕ) (h : n ≤ 2 ^ 24) where
  pub lt_of_int : lt (fin false m e) (of_int binary32 (pos n)) ≡ ltb (m * up e) (n * down e)
  lt_of_int = lt_values (fin false m e) (of_int binary32 (pos n)) false false (m * up e) (down e) n 1 (down_pos e) (pow_pos 0) (refl, refl) (of_int_value n h) ∙ ap (λ (z : ℕ). ltb z (n * down e)) (mul-one (m * up e))

-- ---- the cut to a whole number, by any fraction that the float equals
pub cut_value : (w : ℕ) (x : Float) (a c : ℕ) → 0 < c → HasValue x false a c → to_unsigned w x ≡ min (a / c) (2 ^ w - 1)
unfolding to_unsigned
cut_value w (fin t m e) a c C v =
    ap (λ (z : Bool). cond z 0 (min (m * up e / down e) (2 ^ w - 1))) v.0
    ∙ ap (λ (z : ℕ). min z (2 ^ w - 1)) (div_same (m * up e) (down e) a c (down_pos e) C v.1)
cut_value w nan a c C v = elim v [ ]
cut_value w (inf _) a c C v = elim v [ ]

-- not above -1: nothing is left
pub cut_none : (w : ℕ) (x : Float) → lt (fin true 1 (pos 0)) x ≡ false → 0 ≡ to_unsigned w x
unfolding lt to_unsigned
cut_none w nan h = refl
cut_none w (inf true) h = refl
cut_none w (inf false) h = absurd (true≢false h)
cut_none w (fin true m e) h = refl
cut_none w (fin false m e) h = absurd (some (1 * down e) (m * up e * 1) (mul-pos (pow_pos 0) (down_pos e)) (ltb-false 0 (1 * down e + m * up e * 1) h))
  where
    some : (d a : ℕ) → 0 < d → d + a ≤ 0 → ⊥
    some d a h k = omega arith

-- from 2^w on: the largest number
pub cut_most : (w : ℕ) (x : Float) → lt (fin true 1 (pos 0)) x ≡ true → lt x (fin false 1 (pos w)) ≡ false → 2 ^ w - 1 ≡ to_unsigned w x
unfolding lt to_unsigned
cut_most w nan h k = absurd (false≢true h)
cut_most w (inf true) h k = absurd (false≢true h)
cut_most w (inf false) h k = refl
cut_most w (fin true m e) h k = absurd (some (m * up e * 1) (1 * 2 ^ w * down e) (mul-pos (mul-pos (pow_pos 0) (pow_pos w)) (down_pos e)) (ltb-false 0 (m * up e * 1 + 1 * 2 ^ w * down e) k))
  where
    some : (a d : ℕ) → 0 < d → a + d ≤ 0 → ⊥
    some a d h k = omega arith
cut_most w (fin false m e) h k = most (m * up e / down e) (2 ^ w) ((le-div_iff_mul-le (down_pos e)).1 (plain (m * up e) (2 ^ w) (down e) (ltb-false (m * up e * 1) (1 * 2 ^ w * down e) k)))
  where
    most : (q p : ℕ) → p ≤ q → p - 1 ≡ min q (p - 1)
    most q p h = omega arith

    plain : (a p d : ℕ) → 1 * p * d ≤ a * 1 → p * d ≤ a
    plain a p d h = omega arith

-- nothing is above the infinity
top_lt : (y : Float) → lt (inf false) y ≡ false
unfolding lt
top_lt nan = refl
top_lt (inf t) = refl
top_lt (fin t n d) = refl

-- below a whole number: cut below it too, so an index held inside a side that x is below is just the cut
pub cut_below : (w : ℕ) (x : Float) (n : ℕ) → 0 < n → n ≤ 2 ^ 24 → lt x (of_int binary32 (pos n)) ≡ true → to_unsigned w x < n
unfolding to_unsigned
cut_below w nan n N h t = N
cut_below w (inf true) n N h t = N
cut_below w (inf false) n N h t = absurd (true≢false (sym t ∙ top_lt (of_int binary32 (pos n))))
cut_below w (fin true m e) n N h t = N
cut_below w (fin false m e) n N h t = lt_of_le_of_lt (min-le_left (m * up e / down e) (2 ^ w - 1)) ((div-lt_iff_lt-mul (down_pos e)).1 (ltb-true (m * up e) (n * down e) (sym (lt_of_int m e n h) ∙ t)))

pub index_inside : IndexInside
index_inside x side S h t = uncapped (to_unsigned 64 x) (cut_below 64 x side S h t)
  where
    uncapped : (t : ℕ) → t < side → min t (side - 1) ≡ t
    uncapped t l = omega arith

-- ---- a sum of two floats of one sign, by any fractions that they equal
pub add_values : (f : Format) (x y : Float) (s : Bool) (a c b d : ℕ) → 0 < c → 0 < d → HasValue x s a c → HasValue y s b d → add f x y ≡ round f s (a * d + b * c) (c * d)
unfolding add sum
add_values f (fin s' m e) (fin t' n g) s a c b d C D v w =
    let p = m * up e * down g in
    let q = n * up g * down e in
    ap (λ (z : Bool). sum f z p t' q (down e * down g)) v.0
    ∙ ap (λ (z : Bool). sum f s p z q (down e * down g)) w.0
    ∙ like s p q (down e * down g)
    ∙ round_same f s (p + q) (down e * down g) (a * d + b * c) (c * d) (mul-pos (down_pos e) (down_pos g)) (mul-pos C D)
    (add-mul p q (c * d) ∙ ap (λ (z : ℕ). z + q * (c * d)) (cross (m * up e) (down e) (down g) a c d v.1) ∙ ap (λ (z : ℕ). a * d * (down e * down g) + z) (cross_r (n * up g) (down e) (down g) b c d w.1) ∙ sym (add-mul (a * d) (b * c) (down e * down g)))
  where
    like : (s : Bool) (p q r : ℕ) → sum f s p s q r ≡ round f s (p + q) r
    like true p q r = unfold sum in refl
    like false p q r = unfold sum in refl
add_values f nan y s a c b d C D v w = elim v [ ]
add_values f (inf _) y s a c b d C D v w = elim v [ ]
add_values f (fin s' m e) nan s a c b d C D v w = elim w [ ]
add_values f (fin s' m e) (inf _) s a c b d C D v w = elim w [ ]

-- whole numbers up to 2^24 add up as whole numbers do
pub of_int_add : (a b : ℕ) → a ≤ 2 ^ 24 → b ≤ 2 ^ 24 → add binary32 (of_int binary32 (pos a)) (of_int binary32 (pos b)) ≡ of_int binary32 (pos (a + b))
of_int_add a b h k =
    add_values binary32 (of_int binary32 (pos a)) (of_int binary32 (pos b)) false a 1 b 1 (pow_pos 0) (pow_pos 0) (of_int_value a h) (of_int_value b k)
    ∙ ap (λ (z : ℕ). round binary32 false z 1) (ones a b)
    ∙ unfold of_int in refl
  where
    ones : (a b : ℕ) → a * 1 + b * 1 ≡ a + b
    ones a b = omega arith
