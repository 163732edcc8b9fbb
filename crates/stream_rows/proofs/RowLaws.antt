-- The rows of a stream: their marks, and how many bytes they take.
use Prim.Native.Nat.{ℕ, zero, suc, ◌+◌, ◌*◌, ◌≤◌, ◌<◌}
use mathlib.Core.Path.{◌≡◌, refl, sym, ap, ◌∙◌}
use mathlib.Core.Bool.{Bool, true, false, not, ◌&&◌, and-false}
use mathlib.Core.List.{List}
use native.Mathlib.Nat.{mul-le-mul}
use native.Mathlib.Numerals.{add-one}
use native.Mathlib.Omega.{arith}
use native.Mathlib.Decide.{dec_lt}
use borrow.Author.Tests.{not-true, not-false}
use Rattle.grid.specs.Sides.{InRange}
use Rattle.stream_bytes.specs.Bytes.{row_mark, marked}
use Rattle.stream_rows.specs.Rows.{row_length, row_at, rows_marked}

-- the bytes of the rows up to row y are some of those of all rows
pub rows_end : (w h y : ℕ) → y < h → suc y * row_length w ≤ h * row_length w
rows_end w h y l = mul-le-mul l (omega arith)

-- rows that have their mark
module _ (s : List ℕ) (rows w : ℕ) where
  -- a row without its mark
  unmarked : (h y : ℕ) → y < h → marked s (row_at rows w y) row_mark ≡ false → rows_marked s rows w h ≡ false
  unfolding rows_marked
  unmarked zero y l e = let z : ⊥ = omega arith in absurd z
  unmarked (suc h) y l e = elim (dec_lt y h) [
    | yes earlier ↦ ap (λ (b : Bool). b && marked s (row_at rows w h) row_mark) (unmarked h y earlier e)
    | no later ↦
        let same : y ≡ h = omega arith in
        ap (λ (b : Bool). rows_marked s rows w h && b) (ap (λ (i : ℕ). marked s (row_at rows w i) row_mark) (sym same) ∙ e)
        ∙ and-false (rows_marked s rows w h)
  ]

  pub marked_none : rows_marked s rows w 0 ≡ true
  unfolding rows_marked
  marked_none = refl

  module _ (y : ℕ) {at : ℕ} (place : at ≡ row_at rows w y) {b : Bool} (e : b ≡ marked s at row_mark) where
    read : b ≡ marked s (row_at rows w y) row_mark
    read = e ∙ ap (λ (i : ℕ). marked s i row_mark) place

    pub marked_not : {h : ℕ} → y < h → not b ≡ true → false ≡ rows_marked s rows w h
    marked_not {h} l t = sym (unmarked h y l (sym read ∙ not-true b t))

    pub marked_more : rows_marked s rows w y ≡ true → not b ≡ false → rows_marked s rows w (y + 1) ≡ true
    unfolding rows_marked
    marked_more before t = ap (rows_marked s rows w) (add-one y) ∙ rw before (sym read ∙ not-false b t)

-- the rows of a grid in range are few enough to count
pub rows_fit : (w h : ℕ) → InRange w h → h * row_length w ≤ 4096 * 16386
rows_fit w h r =
    let wide : row_length w ≤ 16386 = omega (arith, r.wide) in
    mul-le-mul r.high wide
