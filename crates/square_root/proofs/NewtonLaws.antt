-- Newton's step in whole numbers: it never falls below the whole root r, and what lay d from r lies some d * d / 2 ^ 24 above it afterwards.
use mathlib.Core.Path.{◌≡◌, sym, subst, subst₂}
use Prim.Native.Nat.{ℕ, ◌+◌, ◌-◌, ◌*◌, ◌/◌, ◌^◌, ◌≤◌, ◌<◌}
use native.Mathlib.Nat.{lt-div-mul-add, div-mul-le_self, mul-le-mul_left, le-add_right, le_trans}
use native.Mathlib.Omega.{arith}
use native.Mathlib.Decide.{dec_le}
use Rattle.square_root.specs.Root.{whole_root}
use Rattle.square_root.specs.Inner.{Around, Over}
use Rattle.square_root.proofs.WholeLaws.{not_above, square_mono, below_root, whole_bracket}

abbrev pub step : ℕ → ℕ → ℕ
step n g = (g + n / g) / 2

either : {A : Type 0} (a b : ℕ) → (a ≤ b → A) → (b ≤ a → A) → A
either a b f g = elim (dec_le a b) [
  | yes h ↦ f h
  | no h ↦ g (turned h)
]
  where
    turned : ¬ (a ≤ b) → b ≤ a
    turned h = omega arith

-- four times a product is at most the square of the sum
means : (a b : ℕ) → 4 * (a * b) ≤ (a + b) * (a + b)
means a b = either a b (λ (h : a ≤ b). go a (b - a) b (omega arith)) (λ (h : b ≤ a). turn (go b (a - b) a (omega arith)))
  where
    go : (p d q : ℕ) → q ≡ p + d → 4 * (p * q) ≤ (p + q) * (p + q)
    go p d q e = rw e (omega arith)

    turn : 4 * (b * a) ≤ (b + a) * (b + a) → 4 * (a * b) ≤ (a + b) * (a + b)
    turn h = omega arith

step_low : (n g r : ℕ) → 0 < g → r * r ≤ n → r ≤ step n g
step_low n g r p h = not_above (λ (k : step n g < r). no (n / g) (lt-div-mul-add p) (means g (n / g + 1)) (square_mono (far k)))
  where
    far : step n g < r → g + (n / g + 1) ≤ 2 * r
    far k = omega arith

    no : (m : ℕ) → n < m * g + g → 4 * (g * (m + 1)) ≤ (g + (m + 1)) * (g + (m + 1)) → (g + (m + 1)) * (g + (m + 1)) ≤ 2 * r * (2 * r) → ⊥
    no m a b c = omega arith

-- the square of a difference
apart : (a b D : ℕ) → a ≤ b + D → b ≤ a + D → a * a + b * b ≤ 2 * (a * b) + D * D
apart a b D h k = either a b (λ (l : a ≤ b). go a (b - a) b (omega arith) (square_mono {a = b - a} {b = D} (omega arith))) (λ (l : b ≤ a). turn (go b (a - b) a (omega arith) (square_mono {a = a - b} {b = D} (omega arith))))
  where
    go : (p d q : ℕ) → q ≡ p + d → d * d ≤ D * D → p * p + q * q ≤ 2 * (p * q) + D * D
    go p d q e l = rw e (omega arith)

    turn : b * b + a * a ≤ 2 * (b * a) + D * D → a * a + b * b ≤ 2 * (a * b) + D * D
    turn l = omega arith

step_high : (n g r D E : ℕ) → n < (r + 1) * (r + 1) → g ≤ r + D → r ≤ g + D → D * D + 2 * r < 2 * ((E + 1) * g) → step n g ≤ r + E
step_high n g r D E h a b c = not_above (λ (k : r + E < step n g). no (n / g) (div-mul-le_self n g) (apart g r D a b) (mul-le-mul_left g (far k)))
  where
    far : r + E < step n g → 2 * (r + E + 1) ≤ g + n / g
    far k = omega arith

    no : (m : ℕ) → m * g ≤ n → g * g + r * r ≤ 2 * (g * r) + D * D → g * (2 * (r + E + 1)) ≤ g * (g + m) → ⊥
    no m x y z = omega arith

-- ---- what the code does: a line, then two steps

pub over_around : {n e s : ℕ} → Over n e s → Around n e s
over_around {n} {e} {s} o = record { least = le_trans o.least (le-add_right s e); most = o.most }

-- the whole root of such a number has 24 digits
root_low : (n : ℕ) → 2 ^ 46 ≤ n → n < 2 ^ 48 → 2 ^ 23 ≤ whole_root n
root_low n l h = below_root (2 ^ 23) (whole_root n) n l (whole_bracket n h).1

pub further : (n D E s : ℕ) → 2 ^ 46 ≤ n → n < 2 ^ 48 → Around n D s → D < 2 ^ 23 → D * (D + 2 * (E + 1)) < E * 2 ^ 24 → Over n E (step n s)
further n D E s l h o d e =
    let w = whole_bracket n h in
    let r = whole_root n in
    let big : 2 ^ 23 ≤ r = root_low n l h in
    record {
      least = step_low n s r (pos big o.least) w.0;
      most = step_high n s r D E w.1 o.most o.least (room r (mul-le-mul_left E big) (mul-le-mul_left (E + 1) o.least));
    }
  where
    pos : {r : ℕ} → 2 ^ 23 ≤ r → r ≤ s + D → 0 < s
    pos a b = omega arith

    room : (r : ℕ) → E * 2 ^ 23 ≤ E * r → (E + 1) * r ≤ (E + 1) * (s + D) → D * D + 2 * r < 2 * ((E + 1) * s)
    room r a b = omega arith

-- for roots from lo to hi: the root lies below its tangent at c, and above its chord but for what the whole root drops
pub record Between (n lo hi c r : ℕ) : Type 0 where
  pub low : lo ≤ r
  pub high : r ≤ hi
  pub tangent : 2 * c * r ≤ n + c * c
  pub chord : n + lo * hi ≤ (lo + hi + 2) * r

pub between : (n lo hi c : ℕ) → n < 2 ^ 48 → lo * lo ≤ n → n < (hi + 1) * (hi + 1) → Between n lo hi c (whole_root n)
between n lo hi c h a b =
    let w = whole_bracket n h in
    let r = whole_root n in
    let l : lo ≤ r = below_root lo r n a w.1 in
    let g : r ≤ hi = below_root r hi n w.0 b in
    record { low = l; high = g; tangent = under r w.0 (means r c); chord = over r (r - lo) (hi - r) (omega arith) (omega arith) w.1 }
  where
    under : (r : ℕ) → r * r ≤ n → 4 * (r * c) ≤ (r + c) * (r + c) → 2 * c * r ≤ n + c * c
    under r p q = omega arith

    apart_by : (x y : ℕ) → n < (lo + x + 1) * (lo + x + 1) → n + lo * (lo + x + y) ≤ (lo + (lo + x + y) + 2) * (lo + x)
    apart_by x y k = omega arith

    over : (r x y : ℕ) → lo + x ≡ r → lo + x + y ≡ hi → n < (r + 1) * (r + 1) → n + lo * hi ≤ (lo + hi + 2) * r
    over r x y p q k = subst₂ (λ (s t : ℕ). n + lo * t ≤ (lo + t + 2) * s) p q (apart_by x y (subst (λ (s : ℕ). n < (s + 1) * (s + 1)) (sym p) k))

-- what lies near such a root has some 24 digits
pub range : (n e s : ℕ) → 2 ^ 46 ≤ n → n < 2 ^ 48 → Around n e s → (2 ^ 23 ≤ s + e) × (s < 2 ^ 24 + e)
range n e s l h o =
    let hi : whole_root n ≤ 2 ^ 24 - 1 = below_root (whole_root n) (2 ^ 24 - 1) n (whole_bracket n h).0 h in
    (le_trans (root_low n l h) o.least, omega (arith, o.most))
