-- Bytes written one after the other.
use Prim.Native.Nat.{ℕ, suc, ◌+◌, ◌/◌, ◌%◌, ◌-◌, ◌^◌, ◌≤◌, ◌<◌}
use mathlib.Core.Path.{◌≡◌, sym, ap, ap₂, ◌∙◌}
use mathlib.Core.List.{List, [], ◌∷◌, ◌++◌}
use native.Mathlib.Nat.{add-zero, add-suc, suc-add}
use native.Mathlib.Numerals.{add-one}
use native.Mathlib.Omega.{arith}
use lib.ListN.{length, set}
use lib.Seq.{sets, length-sets}
use borrow.Rule.Slice.PartMut.{put_mid}
use Rattle.std.proofs.Common.{w32}
use Rattle.std.specs.Int.{to_le_bytes}
use Rattle.std.proofs.lemmas.List.{drop-drop, append_assoc}
use Rattle.std.proofs.lemmas.List.Edits.{sets-eq}
use Rattle.stream_bytes.specs.Bytes.{bytes4}

-- one run of bytes behind another is one run
pub sets_append : (l : List ℕ) (i : ℕ) (a b : List ℕ) → sets (sets l i a) (i + length a) b ≡ sets l i (a ++ b)
sets_append l i [] b = ap (λ (k : ℕ). sets l k b) (add-zero i)
sets_append l i (x ∷ a) b =
    ap (λ (k : ℕ). sets (sets (set l i x) (suc i) a) k b) (add-suc i (length a) ∙ sym (suc-add i (length a)))
    ∙ sets_append (set l i x) (suc i) a b

-- and so where the code has written one and then the other, at the place j behind the first
pub sets_next : (l : List ℕ) (i : ℕ) (xs ys : List ℕ) (j : ℕ) → j ≡ i + length xs → {a b : List ℕ} → a ≡ sets l i xs → b ≡ sets a j ys → b ≡ sets l i (xs ++ ys)
sets_next l i xs ys j p e f = f ∙ ap₂ (λ (l : List ℕ) (j : ℕ). sets l j ys) e p ∙ sets_append l i xs ys

-- a loop that writes n pieces one behind the other from a place on: before its turn i it has written `pieces i`
pub record Putting (old : List ℕ) (at n : ℕ) (pieces : ℕ → List ℕ) (i : ℕ) (new : List ℕ) : Type 0 where
  pub within : i ≤ n
  pub held : new ≡ sets old at (pieces i)

pub putting_none : {old : List ℕ} {at n : ℕ} {pieces : ℕ → List ℕ} → pieces 0 ≡ [] → Putting old at n pieces 0 old
putting_none {old} {at} e = record { within = omega arith; held = sym (ap (sets old at) e) }

module _ {old : List ℕ} {at n : ℕ} {pieces : ℕ → List ℕ} {i : ℕ} {new : List ℕ} (p : Putting old at n pieces i new) where
  pub putting_kept : length new ≡ length old
  putting_kept = ap length p.held ∙ length-sets old at (pieces i)

  pub putting_more : i < n → (piece : List ℕ) {j : ℕ} → pieces (suc i) ≡ pieces i ++ piece → j ≡ at + length (pieces i) → {b : List ℕ} → b ≡ sets new j piece → Putting old at n pieces (i + 1) b
  putting_more l piece {j} e k g =
      record { within = omega arith; held = sets_next old at (pieces i) piece j k p.held g ∙ ap (sets old at) (sym e ∙ ap pieces (sym (add-one i))) }

  pub putting_done : n ≤ i → new ≡ sets old at (pieces n)
  putting_done l =
      let e : i ≡ n = omega (arith, p.within) in
      p.held ∙ ap (λ (k : ℕ). sets old at (pieces k)) e

-- bytes copied over a part of the list
pub copied : (l : List ℕ) (i k : ℕ) (vs : List ℕ) → length vs ≡ k → i + k ≤ length l → {xs : List ℕ} → xs ≡ vs → put_mid i (i + k - i) l xs ≡ sets l i vs
copied l i k vs n inside {xs} e =
    let same : i + k - i ≡ length vs = omega (arith, n) in
    rw (e, same, drop-drop (length vs) i l, ← append_assoc) (sym (sets-eq vs l i (omega (arith, n))))

-- the bytes of a number
pub four_bytes : (x : ℕ) → x < 2 ^ 32 → to_le_bytes w32 x ≡ bytes4 x
four_bytes x h =
    let e : x / 256 ^ 3 % 256 ≡ x / 65536 / 256 % 256 = omega arith in
    ap (λ (b : ℕ). x % 256 ∷ x / 256 % 256 ∷ x / 65536 % 256 ∷ b ∷ []) e
