-- A mark put in is there, and every other mark is as it was, in words and in bytes; and which cells lie in a segment.
use Prim.Native.Nat.{ℕ, zero, suc, ◌+◌, ◌-◌, ◌*◌, ◌/◌, ◌%◌, ◌^◌, ◌≤◌, ◌<◌}
use native.Mathlib.Nat.{div-eq_of_lt, one-mul, zero-div}
use native.Mathlib.Omega.{arith}
use native.Mathlib.Decide.{dec_lt, ℕ_discrete}
use mathlib.Core.Path.{◌≡◌, refl, sym, ap, ◌∙◌, subst}
use mathlib.Core.Bool.{Bool, true, false, not, true≢false}
use mathlib.Core.List.{List}
use lib.ListN.{length, get_or, set, replicate, length-replicate, get_or-replicate}
use lib.Seq.{get_or-set_same, get_or-set_other}
use lib.Pow.{pow-lt, pow-add, shl_exact, shl-shr}
use lib.Bits.{bit_or, or_shr, or_mod, or_zero_r}
use lib.Dec.{eqb, ltb, lit<}
use borrow.Author.Tests.{lt-ltb, le-ltb, ltb-true, ltb-false, not-true}
use Rattle.loops.proofs.TestLaws.{both}
use Rattle.lent_list_marks.specs.Seen.{is_marked, marking, is_set, in_segment, Clear, Blank}

-- a mark put in at place i is there, and every other mark is as it was
pub record Put (m : ℕ → Bool) (i : ℕ) (next : ℕ → Bool) : Type 0 where
  pub same : next i ≡ true
  pub other : (k : ℕ) → (k ≡ i → ⊥) → next k ≡ m k

-- the bits of a power of two
power_same : (k : ℕ) → 2 ^ k / 2 ^ k % 2 ≡ 1
power_same k = ap (λ (x : ℕ). x / 2 ^ k % 2) (sym (one-mul (2 ^ k))) ∙ ap (λ (x : ℕ). x % 2) (shl-shr 1 k)

power_other : (k j : ℕ) → (k ≡ j → ⊥) → 2 ^ k / 2 ^ j % 2 ≡ 0
power_other k j h = go (dec_lt k j)
  where
    even : (d : ℕ) → 2 ^ (suc d + j) / 2 ^ j % 2 ≡ 0
    even d = ap (λ (x : ℕ). x / 2 ^ j % 2) (pow-add 2 (suc d) j) ∙ ap (λ (x : ℕ). x % 2) (shl-shr (2 ^ suc d) j) ∙ omega arith

    go : Dec (k < j) → 2 ^ k / 2 ^ j % 2 ≡ 0
    go (yes l) = ap (λ (x : ℕ). x % 2) (div-eq_of_lt (pow-lt l))
    go (no l) =
        let e : k ≡ suc (k - suc j) + j = omega arith in
        rw e (even (k - suc j))

-- one bit of a word with a bit put in
bit_of : (x k j : ℕ) → bit_or x (2 ^ k) / 2 ^ j % 2 ≡ bit_or (x / 2 ^ j % 2) (2 ^ k / 2 ^ j % 2)
bit_of x k j = ap (λ (z : ℕ). z % 2) (or_shr x (2 ^ k) j) ∙ or_mod (x / 2 ^ j) (2 ^ k / 2 ^ j) 1

or_one : (b : ℕ) → b < 2 → bit_or b 1 ≡ 1
or_one zero l = refl
or_one (suc zero) l = refl
or_one (suc (suc b)) l = absurd (omega arith)

bit_same : (x k : ℕ) → bit_or x (2 ^ k) / 2 ^ k % 2 ≡ 1
bit_same x k = bit_of x k k ∙ ap (bit_or (x / 2 ^ k % 2)) (power_same k) ∙ or_one (x / 2 ^ k % 2) (omega arith)

bit_other : (x k j : ℕ) → (k ≡ j → ⊥) → bit_or x (2 ^ k) / 2 ^ j % 2 ≡ x / 2 ^ j % 2
bit_other x k j h = bit_of x k j ∙ ap (bit_or (x / 2 ^ j % 2)) (power_other k j h) ∙ or_zero_r (x / 2 ^ j % 2)

-- what the code shifts
pub shifted_one : (k : ℕ) → k < 64 → (1 * 2 ^ k) % 2 ^ 64 ≡ 2 ^ k
shifted_one k l = shl_exact 1 k 64 (lit< tt) (omega arith) ∙ one-mul (2 ^ k)

module _ (seen : List ℕ) (i : ℕ) (inside : i / 64 < length seen) where
  marked_same : is_marked (marking seen i) i ≡ true
  unfolding is_marked marking
  marked_same =
      ap (λ (x : ℕ). eqb (x / 2 ^ (i % 64) % 2) 1) (get_or-set_same seen (i / 64) _ 0 inside)
      ∙ ap (λ (b : ℕ). eqb b 1) (bit_same (get_or seen (i / 64) 0) (i % 64))

  marked_other : (m : ℕ) → (m ≡ i → ⊥) → is_marked (marking seen i) m ≡ is_marked seen m
  unfolding is_marked marking
  marked_other m h = go (ℕ_discrete (m / 64) (i / 64))
    where
      word : ℕ
      word = bit_or (get_or seen (i / 64) 0) (2 ^ (i % 64))

      go : Dec (m / 64 ≡ i / 64) → eqb (get_or (set seen (i / 64) word) (m / 64) 0 / 2 ^ (m % 64) % 2) 1 ≡ eqb (get_or seen (m / 64) 0 / 2 ^ (m % 64) % 2) 1
      go (no d) = ap (λ (x : ℕ). eqb (x / 2 ^ (m % 64) % 2) 1) (get_or-set_other seen (i / 64) (m / 64) word 0 d)
      go (yes e) =
          rw e
          (ap (λ (x : ℕ). eqb (x / 2 ^ (m % 64) % 2) 1) (get_or-set_same seen (i / 64) word 0 inside)
          ∙ ap (λ (b : ℕ). eqb b 1) (bit_other (get_or seen (i / 64) 0) (i % 64) (m % 64) (λ q. h (omega arith))))

  marked_put : Put (is_marked seen) i (is_marked (marking seen i))
  marked_put = record { same = marked_same; other = marked_other }

pub put_word : (seen : List ℕ) (i : ℕ) → i < length seen * 64 → {next : List ℕ} → next ≡ marking seen i → Put (is_marked seen) i (is_marked next)
put_word seen i l {next} e = subst (λ (s : List ℕ). Put (is_marked seen) i (is_marked s)) (sym e) (marked_put seen i (omega arith))

pub put_byte : (seen : List ℕ) (i : ℕ) → i < length seen → Put (is_set seen) i (is_set (set seen i 1))
put_byte seen i l =
    record { same = ap (λ (x : ℕ). eqb x 1) (get_or-set_same seen i 1 0 l); other = λ k d. ap (λ (x : ℕ). eqb x 1) (get_or-set_other seen i k 1 0 d) }

-- no mark at first
pub words_none : {n : ℕ} {seen : List ℕ} → Clear n seen → (i : ℕ) → i < n → is_marked seen i ≡ false
unfolding is_marked
words_none {seen = seen} e i l =
    let inside : i / 64 < length seen = omega (arith, e.enough) in
    ap (λ (s : List ℕ). eqb (get_or s (i / 64) 0 / 2 ^ (i % 64) % 2) 1) e.none
    ∙ ap (λ (x : ℕ). eqb (x / 2 ^ (i % 64) % 2) 1) (get_or-replicate (length seen) (i / 64) 0 0 inside) ∙ ap (λ (x : ℕ). eqb (x % 2) 1) (zero-div (2 ^ (i % 64)))

pub bytes_none : {n : ℕ} {seen : List ℕ} → Blank n seen → (i : ℕ) → i < n → is_set seen i ≡ false
bytes_none {seen = seen} e i l =
    ap (λ (s : List ℕ). eqb (get_or s i 0) 1) e.none ∙ ap (λ (x : ℕ). eqb x 1) (get_or-replicate (length seen) i 0 0 (omega (arith, e.enough)))

-- marks that are all 0 at first
blank : (size : ℕ) → replicate {A = ℕ} size 0 ≡ replicate (length (replicate {A = ℕ} size 0)) 0
blank size = ap (λ (k : ℕ). replicate k 0) (sym (length-replicate {A = ℕ} size 0))

pub clear_at : (size : ℕ) {n : ℕ} → n ≤ size * 64 → Clear n (replicate size 0)
clear_at size l = record { none = blank size; enough = omega (arith, length-replicate {A = ℕ} size 0) }

-- where a cell lies
module _ (long lo c : ℕ) where
  pub segment_before : c < lo → in_segment long lo c ≡ false
  segment_before h = rw (lt-ltb c lo h)

  pub segment_from : lo ≤ c → in_segment long lo c ≡ ltb (c - lo) long
  segment_from h = rw (le-ltb c lo h)

  pub inside : in_segment long lo c ≡ true → (lo ≤ c) × (c < lo + long)
  inside e =
      let p = both (not (ltb c lo)) (ltb (c - lo) long) e in
      let l : lo ≤ c = omega (arith, ltb-false c lo (not-true (ltb c lo) p.0)) in
      (l, omega (arith, ltb-true (c - lo) long p.1))

  pub outside : in_segment long lo c ≡ false → lo ≤ c → c < lo + long → ⊥
  outside e h l = true≢false (sym (segment_from h ∙ lt-ltb (c - lo) long (omega arith)) ∙ e)
