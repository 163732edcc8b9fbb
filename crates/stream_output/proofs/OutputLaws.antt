-- The records of the output, written one behind the other.
use Rattle.std.specs.declared.result.Result.TheVariants.{Ok, Err}
use Rattle.answers.specs.Outcome.{Answer}
use Prim.Native.Nat.{ℕ, zero, suc, ◌+◌, ◌*◌, ◌-◌, ◌≤◌, ◌<◌}
use mathlib.Core.Path.{◌≡◌, refl, sym, ap, ◌∙◌}
use mathlib.Core.Bool.{false}
use mathlib.Core.List.{List, ◌++◌}
use native.Mathlib.Nat.{zero-mul}
use native.Mathlib.Omega.{arith}
use borrow.Author.Tests.{lt-ltb, le-ltb}
use mir.Syntax.{w16}
use mir.Val.{Fits}
use lib.Dec.{ltb}
use lib.ListN.{length, take, drop, length-append}
use lib.Seq.{sets}
use lib.Ieee.{Float, nan, binary32, to_bits}
use Rattle.grid.proofs.SidesLaws.{row_end}
use Rattle.answers.specs.Outcome.{number_in, answer_of}
use Rattle.answers.proofs.OutcomeLaws.{refusal_by_lem}
use Rattle.stream_bytes.specs.Bytes.{bytes2, bytes4, grid_mark, row_mark, end_mark}
use Rattle.stream_words.specs.Words.{bits_at, word_in, word_bytes}
use Rattle.stream_words.proofs.WordLaws.{words_length, words_part}
use Rattle.stream_bytes.proofs.PutLaws.{sets_next, Putting, putting_none, putting_more}
use Rattle.stream_output.specs.Output.{grid_record, height_bytes, row_record, row_records, end_record, for_input}

-- every number of documents 01 and 02 is small
pub number_fits : (a : Answer) (n : ℕ) → n ≡ number_in (answer_of a) → Fits w16 n
number_fits (Ok tt) n e = record { fits = omega arith }
number_fits (Err r) n e = record { fits = omega (arith, e, refusal_by_lem (λ o n p. n < 37) (λ n l. l) (λ n p l. l) r) }

pub input_none : (n : ℕ) → n ≡ 0 → false ≡ for_input n
input_none n e = sym (rw (le-ltb 0 n (omega arith)))

pub input_some : (n : ℕ) → (n ≡ 0 → ⊥) → ltb n 10 ≡ for_input n
input_some zero d = absurd (d refl)
input_some (suc n) d = sym (rw (lt-ltb 0 (suc n) (omega arith)))

pub grid_put : (l : List ℕ) (w h : ℕ) {a b c : List ℕ} → a ≡ sets l 0 grid_mark → b ≡ sets a 2 (bytes2 w) → c ≡ sets b 4 (bytes2 h) → c ≡ sets l 0 (grid_record w h)
grid_put l w h e f g = sets_next l 0 (grid_mark ++ bytes2 w) (bytes2 h) 4 refl (sets_next l 0 grid_mark (bytes2 w) 2 refl e f) g

pub end_put : (l : List ℕ) (at n i p q : ℕ) {a b c d e : List ℕ} → a ≡ sets l at end_mark → b ≡ sets a (at + 2) (bytes2 n) → c ≡ sets b (at + 4) (bytes4 i)
    → d ≡ sets c (at + 8) (bytes4 p) → e ≡ sets d (at + 12) (bytes4 q) → e ≡ sets l at (end_record n i p q)
end_put l at n i p q ha hb hc hd he =
    sets_next l at (end_mark ++ (bytes2 n ++ (bytes4 i ++ bytes4 p))) (bytes4 q) (at + 12) refl
    (sets_next l at (end_mark ++ (bytes2 n ++ bytes4 i)) (bytes4 p) (at + 8) refl
    (sets_next l at (end_mark ++ bytes2 n) (bytes4 i) (at + 4) refl (sets_next l at end_mark (bytes2 n) (at + 2) refl ha hb) hc) hd) he

pub row_put : (l : List ℕ) (at : ℕ) (map : List Float) (cell w : ℕ) {a b : List ℕ} → a ≡ sets l at row_mark → b ≡ sets a (at + 2) (height_bytes map cell w)
    → b ≡ sets l at (row_record map cell w)
row_put l at map cell w e f = sets_next l at row_mark (height_bytes map cell w) (at + 2) refl e f

-- the same, where the heights are a part of the map
pub row_part_put : (l : List ℕ) (at : ℕ) (map : List Float) (cell w : ℕ) → cell + w ≤ length map → {a b : List ℕ} → a ≡ sets l at row_mark
    → (let row : List Float = take (cell + w - cell) (drop cell map) in b ≡ sets a (at + 2) (word_bytes (length row) (word_in (to_bits binary32) nan row))) → b ≡ sets l at (row_record map cell w)
row_part_put l at map cell w h {a} e f =
    row_put l at map cell w e (f ∙ ap (sets a (at + 2)) (words_part (to_bits binary32) nan map cell w h refl))

-- where a row is written
pub row_room : (w h y : ℕ) → y < h → (n : ℕ) → 6 + h * (2 + 4 * w) ≤ n → 6 + y * (2 + 4 * w) + (2 + 4 * w) ≤ n
row_room w h y l n k = omega (arith, row_end (2 + 4 * w) h y l)

-- the rows before y
pub rows_length_lem : (map : List Float) (w y : ℕ) → length (row_records map w y) ≡ y * (2 + 4 * w)
unfolding row_records
rows_length_lem map w zero = sym (zero-mul (2 + 4 * w))
rows_length_lem map w (suc y) =
    length-append (row_records map w y) (row_record map (y * w) w) ∙ omega (arith, rows_length_lem map w y, words_length (bits_at map (y * w)) w)

-- a loop that writes them
module _ (map : List Float) (w : ℕ) {old : List ℕ} {h : ℕ} where
  pub rows_none : Putting old 6 h (row_records map w) 0 old
  unfolding row_records
  rows_none = putting_none refl

  pub rows_more : {y : ℕ} {new : List ℕ} → Putting old 6 h (row_records map w) y new → y < h → {b : List ℕ} → b ≡ sets new (6 + y * (2 + 4 * w)) (row_record map (y * w) w) → Putting old 6 h (row_records map w) (y + 1) b
  unfolding row_records
  rows_more {y} p l f = putting_more p l (row_record map (y * w) w) refl (omega (arith, rows_length_lem map w y)) f
