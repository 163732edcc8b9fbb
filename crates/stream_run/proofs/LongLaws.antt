-- An input longer than any accepted stream is refused as its first 24,613 bytes are.
use Prim.Native.Nat.{ℕ, ◌+◌, ◌*◌, ◌≤◌, ◌<◌}
use mathlib.Core.Path.{◌≡◌, refl, ap, ap₂, ◌∙◌}
use mathlib.Core.Bool.{Bool, true, false, not, ◌||◌, cond}
use mathlib.Core.List.{List}
use native.Mathlib.Nat.{mul-le-mul}
use native.Mathlib.Omega.{arith}
use borrow.Author.Tests.{ltb-false, le-ltb, ne_eqb}
use lib.Dec.{eqb, ltb}
use lib.ListN.{length, take}
use lib.Seq.{length-take-le, get_or-take, take-take}
use Rattle.loops.proofs.TestLaws.{behind}
use Rattle.answers.specs.Outcome.{Outcome, refused}
use Rattle.grid.specs.Sides.{bad_sides, InRange}
use Rattle.grid.proofs.SidesLaws.{good_sides}
use Rattle.stream_bytes.specs.Bytes.{number2, same, mark_at, grid_mark}
use Rattle.stream_rows.specs.Rows.{row_at, rows_marked}
use Rattle.stream.specs.Stream.{Parsed, settings_length, rows_at, header_at, parsed_of, bad_grid, bad_rest, values_of, read_stream}
use Rattle.stream.proofs.RecordLaws.{settings_few}
use Rattle.stream_run.specs.StreamRun.{output_from, relief_of, LongInput}

-- a stream of more bytes than any accepted one has bytes left over
too_long : (s : List ℕ) (w h : ℕ) → 24612 < length s → InRange w h → w * h ≤ 4096 → bad_rest s w h ≡ true
unfolding bad_rest
too_long s w h l r few =
    go (eqb (settings_length (mark_at s 6)) 0) (not (rows_marked s (rows_at s) w h)) (ne_eqb (length s) (row_at (rows_at s) w h) (λ e. absurd (other e)))
  where
    other : length s ≡ row_at (rows_at s) w h → ⊥
    other e =
        let n : h * 1 ≤ h * w = mul-le-mul (omega arith) r.columns in
        omega (arith, e, few, n, settings_few s (settings_length (mark_at s 6)) refl)

    go : (a c : Bool) {b : Bool} → b ≡ false → (a || (not b || c)) ≡ true
    go true c e = refl
    go false c e = rw e

-- what stands in the first six bytes
module _ (s : List ℕ) (l : 24612 < length s) where
  cut : List ℕ
  cut = take 24613 s

  cut_length : length (take 24613 s) ≡ 24613
  cut_length = length-take-le 24613 s (omega arith)

  cut_number : (at : ℕ) → at < 24612 → number2 (take 24613 s) at ≡ number2 s at
  unfolding number2
  cut_number at m = ap₂ (λ (a b : ℕ). a + b * 256) (get_or-take 24613 s at 0 (omega arith)) (get_or-take 24613 s (at + 1) 0 (omega arith))

  cut_grid : bad_grid (take 24613 s) ≡ bad_grid s
  unfolding bad_grid
  cut_grid = rw (cut_length, le-ltb (length s) 6 (omega arith)) (ap (λ (m : List ℕ). not (same m grid_mark)) (take-take 2 24613 s (omega arith)))

  decided : (a b c d e : Bool) (x y : Outcome Parsed) → (b ≡ false → c ≡ false → d ≡ true) → (b ≡ false → c ≡ false → e ≡ true)
      → cond a (refused 8) (cond b (refused 1) (cond c (refused 9) (cond d (refused 8) x)))
      ≡ cond a (refused 8) (cond b (refused 1) (cond c (refused 9) (cond e (refused 8) y)))
  decided a b c d e x y f g = behind a (refused 8) (λ _. behind b (refused 1) (λ eb. behind c (refused 9) (λ ec. rw (f eb ec, g eb ec))))

  same_reading : read_stream true (take 24613 s) ≡ read_stream true s
  unfolding read_stream
  same_reading =
      (λ i. cond (cut_grid i) (refused 8) (cond (bad_sides (cut_number 2 (omega arith) i) (cut_number 4 (omega arith) i)) (refused 1) (cond (ltb 4096 (cut_number 2 (omega arith) i * cut_number 4 (omega arith) i)) (refused 9)
      (cond (bad_rest (take 24613 s) (cut_number 2 (omega arith) i) (cut_number 4 (omega arith) i)) (refused 8) (values_of (parsed_of (take 24613 s) (header_at (take 24613 s))))))))
      ∙ decided (bad_grid s) (bad_sides (number2 s 2) (number2 s 4)) (ltb 4096 (number2 s 2 * number2 s 4)) _ _ _ _
      (λ b c. too_long (take 24613 s) (number2 s 2) (number2 s 4) (omega (arith, cut_length)) (good_sides _ _ b) (ltb-false 4096 _ c))
      (λ b c. too_long s (number2 s 2) (number2 s 4) l (good_sides _ _ b) (ltb-false 4096 _ c))

pub long_input : LongInput
unfolding relief_of
long_input s l = ap output_from (same_reading s l)
