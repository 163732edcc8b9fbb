-- The records of a stream before its rows, and the rest of it.
use Prim.Native.Nat.{ℕ, ◌+◌, ◌*◌, ◌≤◌, ◌<◌}
use mathlib.Core.Path.{◌≡◌, sym, ap, ap₂, ◌∙◌}
use mathlib.Core.Bool.{Bool, true, false, not, cond}
use mathlib.Core.List.{List}
use native.Mathlib.Omega.{arith}
use borrow.Author.Tests.{lt-ltb, le-ltb, eq-eqb, ne_eqb}
use lib.ListN.{length}
use Rattle.stream_bytes.specs.Bytes.{grid_mark, fluvial_mark, thermal_mark, same, mark_at, marked}
use Rattle.stream_rows.specs.Rows.{row_length, row_at, rows_marked}
use Rattle.stream.specs.Stream.{settings_length, rows_at, bad_grid, bad_rest}

-- the grid record
pub grid_short : (s : List ℕ) → length s < 6 → true ≡ bad_grid s
unfolding bad_grid
grid_short s l = sym (rw (lt-ltb (length s) 6 l))

pub grid_mark_lem : (s : List ℕ) (b : Bool) → 6 ≤ length s → b ≡ marked s 0 grid_mark → not b ≡ bad_grid s
unfolding bad_grid
grid_mark_lem s b l e = ap not e ∙ sym (rw (le-ltb (length s) 6 l))

-- the settings record
pub settings_fluvial : (s : List ℕ) (b : Bool) → b ≡ marked s 6 fluvial_mark → b ≡ true → 28 ≡ settings_length (mark_at s 6)
settings_fluvial s b e t = sym (rw (sym e ∙ t))

pub settings_thermal : (s : List ℕ) (a b : Bool) → a ≡ marked s 6 fluvial_mark → a ≡ false → b ≡ marked s 6 thermal_mark → b ≡ true
    → 24 ≡ settings_length (mark_at s 6)
settings_thermal s a b d f e t = sym (rw (sym d ∙ f, sym e ∙ t))

pub settings_none : (s : List ℕ) (a b : Bool) → a ≡ marked s 6 fluvial_mark → a ≡ false → b ≡ marked s 6 thermal_mark → b ≡ false
    → 0 ≡ settings_length (mark_at s 6)
settings_none s a b d f e t = sym (rw (sym d ∙ f, sym e ∙ t))

settings_most : (mark : List ℕ) → settings_length mark ≤ 28
settings_most mark = go (same mark fluvial_mark) (same mark thermal_mark)
  where
    go : (a b : Bool) → cond a 28 (cond b 24 0) ≤ 28
    go true b = omega arith
    go false true = omega arith
    go false false = omega arith

pub settings_few : (s : List ℕ) (n : ℕ) → n ≡ settings_length (mark_at s 6) → n ≤ 28
settings_few s n e = omega (arith, e, settings_most (mark_at s 6))

-- the rest of a stream
module _ (s : List ℕ) (w h : ℕ) where
  pub rest_mark : (n : ℕ) → n ≡ settings_length (mark_at s 6) → n ≡ 0 → true ≡ bad_rest s w h
  unfolding bad_rest
  rest_mark n e z = sym (rw (eq-eqb (settings_length (mark_at s 6)) 0 (sym e ∙ z)))

  module _ (n k : ℕ) (e : n ≡ settings_length (mark_at s 6)) (f : k ≡ h * row_length w) (some : n ≡ 0 → ⊥) where
    framed : 8 + n + k ≡ row_at (rows_at s) w h
    framed = ap₂ (λ (n k : ℕ). 8 + n + k) e f

    pub rest_length : (length s ≡ 8 + n + k → ⊥) → true ≡ bad_rest s w h
    unfolding bad_rest
    rest_length d =
        sym (rw (ne_eqb (settings_length (mark_at s 6)) 0 (λ z. some (e ∙ z)), ne_eqb (length s) (row_at (rows_at s) w h) (λ g. d (g ∙ sym framed))))

    pub rest_rows : length s ≡ 8 + n + k → (b : Bool) → b ≡ rows_marked s (8 + n) w h → not b ≡ bad_rest s w h
    unfolding bad_rest
    rest_rows d b g =
        ap not (g ∙ ap (λ (n : ℕ). rows_marked s (8 + n) w h) e)
        ∙ sym (rw (ne_eqb (settings_length (mark_at s 6)) 0 (λ z. some (e ∙ z)), eq-eqb (length s) (row_at (rows_at s) w h) (d ∙ framed)))
