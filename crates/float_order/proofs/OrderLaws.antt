-- Numbers compare as their ranks do.
use mathlib.Core.Path.{◌≡◌, refl, sym, ap, ap₂, ◌∙◌}
use mathlib.Core.Bool.{Bool, true, false, not, ◌&&◌, ◌||◌, beq, and-true}
use Prim.Native.Nat.{ℕ, ◌+◌, ◌*◌, ◌^◌, ◌≤◌, ◌<◌}
use native.Mathlib.Nat.{mul_right_comm, mul_assoc, mul_comm, mul-pos}
use native.Mathlib.Omega.{arith}
use borrow.Author.Tests.{lt-ltb, le-ltb, ne_eqb}
use lib.Dec.{T, ltb, leb, eqb, eqb→eq}
use lib.IntN.{ℤ}
use lib.Pow.{pow_pos}
use lib.Ieee.{Float, nan, inf, fin, binary32, up, down, below, level, lt, le, eq, fits, is_nan}
use lib.Ieee.Fits.{down_pos, eq→eqb, and_i, and_l, and_r}
use Rattle.floats.proofs.ValueLaws.{same_test, same_lt, same_eq, or_leb, below_scaled, level_scaled}
use Rattle.float_order.specs.Order.{Number, sign_of, units_of, signed, rank}
use Rattle.float_order.proofs.SizeLaws.{rank_is, units_exact, units_lt, units_le}

-- ---- numbers compare as their signs and sizes do

-- a / e and b / d over one denominator: the two numbers that `lt` and `eq` compare, in units
in_units : (P : ℕ → ℕ → ℕ → ℕ → Type 0) → ((A B a b L D : ℕ) → A * L ≡ a * D → B * L ≡ b * D → 0 < L → 0 < D → P A B a b) → (s t : Bool) (m n : ℕ) (e d : ℤ)
    → T (fits binary32 (fin s m e)) → T (fits binary32 (fin t n d)) → P (m * up e * down d) (n * up d * down e) (units_of (fin s m e)) (units_of (fin t n d))
in_units P f s t m n e d p q =
    let a = units_of (fin s m e) in
    let b = units_of (fin t n d) in
    f (m * up e * down d) (n * up d * down e) a b (2 ^ 149) (down e * down d)
    (over (m * up e) (2 ^ 149) a (down d) (down e) (units_exact s m e p))
    (over (n * up d) (2 ^ 149) b (down e) (down d) (units_exact t n d q) ∙ ap (λ (z : ℕ). b * z) (mul_comm (down d) (down e))) (pow_pos 149) (mul-pos (down_pos e) (down_pos d))
  where
    over : (u L a d e : ℕ) → a * e ≡ u * L → u * d * L ≡ a * (e * d)
    over u L a d e h = mul_right_comm u d L ∙ ap (λ (z : ℕ). z * d) (sym h) ∙ mul_assoc a e d

-- an infinity's size B is above every finite one
inf_below : (B u : ℕ) (s t : Bool) → u < B → s ≡ below s B t u
inf_below B u true true h = sym (lt-ltb u B h)
inf_below B u true false h = sym (lt-ltb 0 (B + u) (omega arith))
inf_below B u false true h = refl
inf_below B u false false h = sym (le-ltb B u (omega arith))

below_inf : (B u : ℕ) (s t : Bool) → u < B → not t ≡ below s u t B
below_inf B u true true h = sym (le-ltb B u (omega arith))
below_inf B u true false h = sym (lt-ltb 0 (u + B) (omega arith))
below_inf B u false true h = refl
below_inf B u false false h = sym (lt-ltb u B h)

-- A comparison of numbers, case by case: it says what `test` says of their signs and sizes.
record Compares (compare : Float → Float → Bool) (test : Bool → ℕ → Bool → ℕ → Bool) : Type 0 where
  infinities : (s t : Bool) → compare (inf s) (inf t) ≡ test s (2 ^ 277) t (2 ^ 277)
  left : (s t : Bool) (n : ℕ) (d : ℤ) → units_of (fin t n d) < 2 ^ 277 → compare (inf s) (fin t n d) ≡ test s (2 ^ 277) t (units_of (fin t n d))
  right : (s t : Bool) (m : ℕ) (e : ℤ) → units_of (fin s m e) < 2 ^ 277 → compare (fin s m e) (inf t) ≡ test s (units_of (fin s m e)) t (2 ^ 277)
  finites : (s t : Bool) (m n : ℕ) (e d : ℤ) → compare (fin s m e) (fin t n d) ≡ test s (m * up e * down d) t (n * up d * down e)
  scaled : (s t : Bool) (A B a b L D : ℕ) → A * L ≡ a * D → B * L ≡ b * D → 0 < L → 0 < D → test s A t B ≡ test s a t b

compares : {compare : Float → Float → Bool} {test : Bool → ℕ → Bool → ℕ → Bool} → Compares compare test
    → (x y : Float) → Number x → Number y → compare x y ≡ test (sign_of x) (units_of x) (sign_of y) (units_of y)
unfolding is_nan
compares k nan y p q = absurd p.real
compares k (inf s) nan p q = absurd q.real
compares k (inf s) (inf t) p q = k.infinities s t
compares k (inf s) (fin t n d) p q = k.left s t n d (units_lt t n d q.fit)
compares k (fin s m e) nan p q = absurd q.real
compares k (fin s m e) (inf t) p q = k.right s t m e (units_lt s m e p.fit)
compares {test = test} k (fin s m e) (fin t n d) p q =
    k.finites s t m n e d ∙ in_units (λ (A B a b : ℕ). test s A t B ≡ test s a t b) (k.scaled s t) s t m n e d p.fit q.fit

-- what holds of each pair of signs holds of any two
by_signs : (P : Bool → Bool → Type 0) → P true true → P true false → P false true → P false false → (s t : Bool) → P s t
by_signs P a b c d true true = a
by_signs P a b c d true false = b
by_signs P a b c d false true = c
by_signs P a b c d false false = d

lt_below : (x y : Float) → Number x → Number y → lt x y ≡ below (sign_of x) (units_of x) (sign_of y) (units_of y)
unfolding lt
lt_below =
    compares
    (record {
      infinities = by_signs (λ s t. lt (inf s) (inf t) ≡ below s (2 ^ 277) t (2 ^ 277)) refl refl refl refl;
      left = λ s t n d l. inf_below (2 ^ 277) (units_of (fin t n d)) s t l;
      right = λ s t m e l. below_inf (2 ^ 277) (units_of (fin s m e)) s t l;
      finites = λ s t m n e d. refl;
      scaled = below_scaled;
    })

not_level : (s t : Bool) (a b : ℕ) → (a ≡ b → ⊥) → false ≡ level s a t b
not_level s t a b h = sym (ap (λ (u : Bool). u && (beq s t || eqb a 0)) (ne_eqb a b h))

apart : (B u : ℕ) → u < B → B ≡ u → ⊥
apart B u h e = omega arith

eq_level : (x y : Float) → Number x → Number y → eq x y ≡ level (sign_of x) (units_of x) (sign_of y) (units_of y)
unfolding eq
eq_level =
    compares
    (record {
      infinities = by_signs (λ s t. eq (inf s) (inf t) ≡ level s (2 ^ 277) t (2 ^ 277)) refl refl refl refl;
      left = λ s t n d l. not_level s t (2 ^ 277) (units_of (fin t n d)) (apart (2 ^ 277) (units_of (fin t n d)) l);
      right = λ s t m e l. not_level s t (units_of (fin s m e)) (2 ^ 277) (λ h. apart (2 ^ 277) (units_of (fin s m e)) l (sym h));
      finites = λ s t m n e d. refl;
      scaled = level_scaled;
    })

-- ---- and so do their ranks: B - a or B + a, for sizes up to B

below_ranked : (B a b : ℕ) (s t : Bool) → a ≤ B → b ≤ B → below s a t b ≡ ltb (signed B s a) (signed B t b)
below_ranked B a b false false h k = same_lt a b (signed B false a) (signed B false b) (λ l. omega arith) (λ l. omega arith)
below_ranked B a b false true h k = sym (le-ltb (signed B false a) (signed B true b) (omega arith))
below_ranked B a b true false h k = same_lt 0 (a + b) (signed B true a) (signed B false b) (λ l. omega arith) (λ l. omega arith)
below_ranked B a b true true h k = same_lt b a (signed B true a) (signed B true b) (λ l. omega arith) (λ l. omega arith)

-- with opposite signs only zeros are equal
opposite : (a b u v : ℕ) → (a ≡ b → a ≡ 0 → u ≡ v) → (u ≡ v → (a ≡ 0) × (b ≡ 0)) → (eqb a b && eqb a 0) ≡ eqb u v
opposite a b u v f g =
    same_test (eqb a b && eqb a 0) (eqb u v)
    (λ t. eq→eqb (f (eqb→eq a b (and_l (eqb a b) (eqb a 0) t)) (eqb→eq a 0 (and_r (eqb a b) (eqb a 0) t))))
    (λ t. let z = g (eqb→eq u v t) in and_i (eqb a b) (eqb a 0) (eq→eqb (z.0 ∙ sym z.1)) (eq→eqb z.0))

level_ranked : (B a b : ℕ) (s t : Bool) → a ≤ B → b ≤ B → level s a t b ≡ eqb (signed B s a) (signed B t b)
level_ranked B a b false false h k = and-true (eqb a b) ∙ same_eq a b (signed B false a) (signed B false b) (λ e. omega arith) (λ e. omega arith)
level_ranked B a b false true h k = opposite a b (signed B false a) (signed B true b) (λ e f. omega arith) (λ e. omega arith)
level_ranked B a b true false h k = opposite a b (signed B true a) (signed B false b) (λ e f. omega arith) (λ e. omega arith)
level_ranked B a b true true h k = and-true (eqb a b) ∙ same_eq a b (signed B true a) (signed B true b) (λ e. omega arith) (λ e. omega arith)

-- ---- the laws

-- a comparison that says of signs and sizes what `op` says of their ranks
by_ranks : (op : ℕ → ℕ → Bool) {compare : Float → Float → Bool} {test : Bool → ℕ → Bool → ℕ → Bool}
    → ((x y : Float) → Number x → Number y → compare x y ≡ test (sign_of x) (units_of x) (sign_of y) (units_of y))
    → ((B a b : ℕ) (s t : Bool) → a ≤ B → b ≤ B → test s a t b ≡ op (signed B s a) (signed B t b))
    → (x y : Float) → Number x → Number y → compare x y ≡ op (rank x) (rank y)
by_ranks op told ranked x y p q =
    told x y p q
    ∙ ranked (2 ^ 277) (units_of x) (units_of y) (sign_of x) (sign_of y) (units_le x p) (units_le y q)
    ∙ ap₂ op (sym (rank_is x p)) (sym (rank_is y q))

pub lt_is : (x y : Float) → Number x → Number y → lt x y ≡ ltb (rank x) (rank y)
lt_is = by_ranks ltb lt_below below_ranked

pub eq_is : (x y : Float) → Number x → Number y → eq x y ≡ eqb (rank x) (rank y)
eq_is = by_ranks eqb eq_level level_ranked

pub le_is : (x y : Float) → Number x → Number y → le x y ≡ leb (rank x) (rank y)
unfolding le
le_is x y p q = ap₂ (λ (u v : Bool). u || v) (lt_is x y p q) (eq_is x y p q) ∙ or_leb (rank x) (rank y)
