-- Thresholds in their ranges: how eight are tested one by one, and why those that are prepared pass.
use Prim.Native.Nat.{ℕ, zero, suc, ◌+◌, ◌*◌, ◌≤◌, ◌<◌}
use native.Mathlib.Nat.{mul-pos, zero-lt-suc}
use native.Mathlib.Omega.{arith}
use mathlib.Core.Path.{◌≡◌, refl, sym, ap, ◌∙◌, subst}
use mathlib.Core.Bool.{Bool, true, false, not, ◌&&◌, ◌||◌, false≢true}
use mathlib.Core.List.{List, [], ◌∷◌}
use lib.Dec.{T, eqb, eqb→eq, lt→ltb, ltb→lt}
use lib.IntN.{ℤ, pos}
use lib.ListN.{length, get_or, drop, drop_of_length-le}
use lib.Pow.{pow_pos}
use lib.Seq.{drop-cons}
use lib.Ieee.{Float, nan, inf, fin, binary32, of_bits, round, mul, below, level, le, lt, eq, up, down}
use lib.Ieee.Bits.{is_true}
use lib.Ieee.Fits.{up_pos, down_pos, and_l}
use lib.Ieee.Scale.{round_same}
use lib.Ieee.Order.{round_mono}
use lib.Ieee.Positive.{positive, num, den, den_pos, own_value, mul_at, mul_mono, le_trans_positive}
use Rattle.loops.proofs.TestLaws.{neither}
use Rattle.floats.proofs.ValueLaws.{holds}
use Rattle.answers.specs.Outcome.{outside_of}
use Rattle.thermal_erosion.specs.OverPass.{bad_threshold, most_of_eight, bad_of_eight, bad_thresholds}
use Rattle.thermal_erosion.specs.SamePass.{InRange, EachTested}

-- the loop over eight thresholds: those before place i lie in their range
pub record Checked (eight : List Float) (i : ℕ) : Type 0 where
  pub within : i ≤ length eight
  pub rest : bad_thresholds (drop i eight) ≡ bad_thresholds eight

module _ {eight : List Float} where
  pub checked_none : Checked eight 0
  checked_none = record { within = omega arith; rest = refl }

  module _ {i : ℕ} (a : Checked eight i) where
    -- the thresholds from place i on are that of place i and the later ones
    from_place : i < length eight → bad_thresholds eight ≡ (bad_of_eight (get_or eight i nan) || bad_thresholds (drop (suc i) eight))
    unfolding bad_thresholds
    from_place l = sym a.rest ∙ ap bad_thresholds (drop-cons eight i nan l)

    pub checked_more : i < length eight → bad_of_eight (get_or eight i nan) ≡ false → Checked eight (i + 1)
    checked_more l e =
        let next : i + 1 ≡ suc i = omega arith in
        record {
          within = omega arith;
          rest = ap (λ (k : ℕ). bad_thresholds (drop k eight)) next ∙ sym (from_place l ∙ ap (λ (b : Bool). b || bad_thresholds (drop (suc i) eight)) e);
        }

    pub checked_bad : i < length eight → bad_of_eight (get_or eight i nan) ≡ true → true ≡ bad_thresholds eight
    checked_bad l e = sym (from_place l ∙ ap (λ (b : Bool). b || bad_thresholds (drop (suc i) eight)) e)

    pub checked_done : length eight ≤ i → false ≡ bad_thresholds eight
    unfolding bad_thresholds
    checked_done l = ap bad_thresholds (sym (drop_of_length-le eight l)) ∙ a.rest

abbrev nought : Float
nought = fin false 0 (pos 0)

abbrev six : Float
six = of_bits binary32 0x40c0_0000

abbrev sixteen : Float
sixteen = of_bits binary32 0x4180_0000

-- what lies in a range lies between its ends
inside : (x lo hi : Float) → T (le lo x) → T (le x hi) → outside_of x lo hi ≡ false
inside x lo hi a b = rw (is_true (le lo x) a, is_true (le x hi) b)

ends : (x lo hi : Float) → outside_of x lo hi ≡ false → T (le lo x) × T (le x hi)
ends x lo hi e = go (le lo x) (le x hi) e
  where
    go : (a b : Bool) → not (a && b) ≡ false → T a × T b
    go true true e = (tt, tt)
    go true false e = absurd (false≢true (sym e))
    go false b e = absurd (false≢true (sym e))

-- a threshold that is not refused lies in its range, and the other way round
in_range : (t : Float) → bad_of_eight t ≡ false → InRange t
in_range t e = let p = ends t (of_bits binary32 0) most_of_eight e in record { least = is_true (le (of_bits binary32 0) t) p.0; most = is_true (le t most_of_eight) p.1 }

range_in : (t : Float) → InRange t → bad_of_eight t ≡ false
range_in t r = inside t (of_bits binary32 0) most_of_eight (holds r.least) (holds r.most)

each_sound : (ts : List Float) → bad_thresholds ts ≡ false → (i : ℕ) → i < length ts → InRange (get_or ts i nan)
unfolding bad_thresholds
each_sound [] e i l = absurd (omega (arith, l))
each_sound (t ∷ ts) e zero l = in_range t (neither (bad_of_eight t) (bad_thresholds ts) e).0
each_sound (t ∷ ts) e (suc i) l = each_sound ts (neither (bad_of_eight t) (bad_thresholds ts) e).1 i (omega (arith, l))

each_complete : (ts : List Float) → ((i : ℕ) → i < length ts → InRange (get_or ts i nan)) → bad_thresholds ts ≡ false
unfolding bad_thresholds
each_complete [] f = refl
each_complete (t ∷ ts) f = rw (range_in t (f 0 (omega arith)), each_complete ts (λ i l. f (suc i) (omega (arith, l))))

pub each_tested : EachTested
each_tested ts = record { sound = each_sound ts; complete = each_complete ts }

-- no value below 0 is at least 0
no_less : (m : ℕ) (e : ℤ) → T (le nought (fin true (suc m) e)) → ⊥
unfolding le lt eq
no_less m e h =
    let same : 0 * 1 * down e ≡ suc m * up e * 1 = eqb→eq _ _ (and_l (eqb (0 * 1 * down e) (suc m * up e * 1)) _ h) in
    let some : 0 < suc m * up e = mul-pos (zero-lt-suc m) (up_pos e) in
    omega (arith, same, some)

-- what holds of both zeros and of every value above 0 and at most 16 holds of every threshold that is accepted
by_size : (P : Float → Type 0) → ((s : Bool) (e : ℤ) → T (le nought (fin s 0 e)) → P (fin s 0 e)) → ((t : Float) → T (positive t) → T (le t sixteen) → P t) → (t : Float) → bad_threshold t ≡ false → P t
unfolding le lt eq of_bits
by_size P zeros above t e = go t (ends t nought sixteen e).0 (ends t nought sixteen e).1
  where
    go : (t : Float) → T (le nought t) → T (le t sixteen) → P t
    go nan l h = absurd l
    go (inf true) l h = absurd l
    go (inf false) l h = absurd h
    go (fin s zero e) l h = zeros s e l
    go (fin true (suc m) e) l h = absurd (no_less m e l)
    go (fin false (suc m) e) l h = above (fin false (suc m) e) (lt→ltb 0 (suc m) (zero-lt-suc m)) h

first : (a b : Bool) → T a → T (a || b)
first true b t = tt
first false b t = absurd t

-- a zero is at most every value above 0
zero_below : (s : Bool) (e : ℤ) (y : Float) → T (positive y) → T (le (fin s 0 e) y)
unfolding le lt eq
zero_below s e nan p = absurd p
zero_below s e (inf t) p = absurd p
zero_below s e (fin true n d) p = absurd p
zero_below s e (fin false n d) p =
    first (below s (0 * up e * down d) false (n * up d * down e)) (level s (0 * up e * down d) false (n * up d * down e))
    (less s (mul-pos (mul-pos (ltb→lt 0 n p) (up_pos d)) (down_pos e)))
  where
    less : (s : Bool) → 0 < n * up d * down e → T (below s (0 * up e * down d) false (n * up d * down e))
    less true l = lt→ltb 0 (0 * up e * down d + n * up d * down e) (omega (arith, l))
    less false l = lt→ltb (0 * up e * down d) (n * up d * down e) (omega (arith, l))

-- a threshold in 0 to 16 lies in 0 to 96
pub itself_in : (t : Float) → bad_threshold t ≡ false → bad_of_eight t ≡ false
unfolding of_bits
itself_in t e =
    by_size (λ (t : Float). bad_of_eight t ≡ false) (λ s e l. inside (fin s 0 e) nought most_of_eight l (zero_below s e most_of_eight tt))
    (λ t p h. inside t nought most_of_eight (zero_below false (pos 0) t p) (le_trans_positive t sixteen most_of_eight p tt tt h (unfold le lt eq in tt))) t e

-- a zero times a value above 0 is a zero
zero_product : (s : Bool) (e : ℤ) (d : Float) → T (positive d) → mul binary32 (fin s 0 e) d ≡ round binary32 s 0 1
unfolding mul
zero_product s e nan p = absurd p
zero_product s e (inf t) p = absurd p
zero_product s e (fin true n d) p = absurd p
zero_product true e (fin false n d) p = round_same binary32 true (0 * up e * (n * up d)) (down e * down d) 0 1 (mul-pos (down_pos e) (down_pos d)) (pow_pos 0) (omega arith)
zero_product false e (fin false n d) p = round_same binary32 false (0 * up e * (n * up d)) (down e * down d) 0 1 (mul-pos (down_pos e) (down_pos d)) (pow_pos 0) (omega arith)

product_above : (t d : Float) → T (positive t) → T (positive d) → T (le nought (mul binary32 t d))
unfolding round
product_above t d p q =
    subst (λ (z : Float). T (le nought z)) (sym (mul_at binary32 t d (num t) (den t) (num d) (den d) p q (den_pos t) (den_pos d) (own_value t p) (own_value d q)))
    (round_mono binary32 0 1 (num t * num d) (den t * den d) (pow_pos 0) (mul-pos (den_pos t) (den_pos d)) (omega arith))

product_below : (t d : Float) → T (positive t) → T (positive d) → T (le t sixteen) → T (le d six) → T (le (mul binary32 t d) most_of_eight)
unfolding of_bits mul round
product_below t d p q a b = mul_mono binary32 t sixteen d six p tt q tt a b

-- a threshold in 0 to 16 times a distance above 0 and at most 6 lies in 0 to 96
pub product_in : (t d : Float) → T (positive d) → T (le d six) → bad_threshold t ≡ false → bad_of_eight (mul binary32 t d) ≡ false
unfolding of_bits
product_in t d q b e =
    by_size (λ (t : Float). bad_of_eight (mul binary32 t d) ≡ false)
    (λ s e l. ap (λ (x : Float). bad_of_eight x) (zero_product s e d q) ∙ zeros s)
    (λ t p h. inside (mul binary32 t d) nought most_of_eight (product_above t d p q) (product_below t d p q h b)) t e
  where
    zeros : (s : Bool) → bad_of_eight (round binary32 s 0 1) ≡ false
    zeros true = unfold round le lt eq of_bits in refl
    zeros false = unfold round le lt eq of_bits in refl
