-- `shifted` in signed arithmetic: what the machine reads back of x + d is x + d, and its sign and size decide as
-- `shifted_of` does; and so of a step that the machine reads.
use Prim.Native.Nat.{ℕ, zero, suc, ◌-◌, ◌^◌, ◌≤◌, ◌<◌}
use native.Mathlib.Omega.{arith}
use mathlib.Core.Path.{◌≡◌, refl, sym, ap, ◌∙◌}
use mathlib.Core.Bool.{Bool, true, false, cond, ◌&&◌, true≢false}
use mathlib.Core.List.{List, [], ◌∷◌}
use lib.IntN.{ℤ, pos, negsuc, nat_abs, ◌+ℤ◌}
use lib.Signed.{mag, lt_z, non_neg}
use lib.Dec.{T, ltb, leb, lit≤, leb→le}
use lib.Ieee.Fits.{and_l, and_r}
use lib.ListN.{get_or}
use borrow.Author.Tests.{ltb-true, ltb-false, lt-ltb, le-ltb}
use mir.Syntax.{w32, w64}
use mir.Val.{Fits, SFits, of_z, to_z}
use mir.ValLaws.{to_z-of_z, to_z_pos}
use Rattle.grid.specs.Directions.{AlongSide, shifted_of}

-- a sum of two signs is no further from 0 than its parts
mag_sum : (x : ℕ) (d : ℤ) → x < 4096 → nat_abs d ≤ 1 → mag (pos x +ℤ d) < 2 ^ 31
mag_sum x (pos k) hx hd = omega arith
mag_sum x (negsuc k) hx hd = go (ltb x (suc k))
  where
    go : (b : Bool) → mag (cond b (negsuc (suc k - suc x)) (pos (x - suc k))) < 2 ^ 31
    go true = omega arith
    go false = omega arith

small : (d : ℤ) → nat_abs d ≤ 1 → SFits w32 d
small (pos k) h = record { sfits = omega arith }
small (negsuc k) h = record { sfits = omega arith }

-- what the machine makes of x + d, and reads back of its bits
abbrev pub sum_of : ℕ → ℤ → ℤ
sum_of x d = to_z w32 x +ℤ to_z w32 (of_z w32 d)

abbrev pub read_of : ℕ → ℤ → ℤ
read_of x d = to_z w32 (of_z w32 (sum_of x d))

-- z in 0 … side - 1, or the side
abbrev held : ℤ → ℕ → ℕ
held (pos n) side = cond (ltb n side) n side
held (negsuc n) side = side

held_sum : (x : ℕ) (d : ℤ) (side : ℕ) → x < side → held (pos x +ℤ d) side ≡ shifted_of x d side
held_sum x (pos k) side h = refl
held_sum x (negsuc k) side h = go (ltb k x) refl
  where
    go : (b : Bool) → ltb k x ≡ b → held (cond (ltb x (suc k)) (negsuc (suc k - suc x)) (pos (x - suc k))) side ≡ cond b (x - suc k) side
    go true e =
        let k< : k < x = ltb-true k x e in
        rw (le-ltb x (suc k) (omega arith), lt-ltb (x - suc k) side (omega arith))
    go false e =
        let x≤ : x ≤ k = ltb-false k x e in
        rw (lt-ltb x (suc k) (omega arith))

module _ {x : ℕ} {d : ℤ} {side : ℕ} (p : AlongSide x d side) where
  sum_is : sum_of x d ≡ pos x +ℤ d
  sum_is = rw (to_z_pos w32 x (omega arith), to_z-of_z w32 d (small d p.small))

  pub sum_fits : SFits w32 (sum_of x d)
  sum_fits = rw sum_is (record { sfits = mag_sum x d (omega arith) p.small })

  read_is : read_of x d ≡ pos x +ℤ d
  read_is = to_z-of_z w32 (sum_of x d) sum_fits ∙ sum_is

  held_is : held (read_of x d) side ≡ shifted_of x d side
  held_is = ap (λ (k : ℤ). held k side) read_is ∙ held_sum x d side p.inside

  -- at or above 0 it may be cast
  pub moved_casts : lt_z (read_of x d) (pos 0) ≡ false → T (non_neg (read_of x d)) × Fits w64 (nat_abs (read_of x d))
  moved_casts t = go (read_of x d) t (rw read_is (mag_sum x d (omega arith) p.small))
    where
      go : (z : ℤ) → lt_z z (pos 0) ≡ false → mag z < 2 ^ 31 → T (non_neg z) × Fits w64 (nat_abs z)
      go (pos n) t h = (tt, record { fits = omega arith })
      go (negsuc n) t h = absurd (true≢false t)

  pub moved_below : lt_z (read_of x d) (pos 0) ≡ true → side ≡ shifted_of x d side
  moved_below t = go (read_of x d) t ∙ held_is
    where
      go : (z : ℤ) → lt_z z (pos 0) ≡ true → side ≡ held z side
      go (pos n) t = absurd (omega (arith, ltb-true n 0 t))
      go (negsuc n) t = refl

  pub moved_inside : lt_z (read_of x d) (pos 0) ≡ false → nat_abs (read_of x d) < side → nat_abs (read_of x d) ≡ shifted_of x d side
  moved_inside t i = go (read_of x d) t i ∙ held_is
    where
      go : (z : ℤ) → lt_z z (pos 0) ≡ false → nat_abs z < side → nat_abs z ≡ held z side
      go (pos n) t i = rw (lt-ltb n side i)
      go (negsuc n) t i = absurd (true≢false t)

  pub moved_past : lt_z (read_of x d) (pos 0) ≡ false → side ≤ nat_abs (read_of x d) → side ≡ shifted_of x d side
  moved_past t i = go (read_of x d) t i ∙ held_is
    where
      go : (z : ℤ) → lt_z z (pos 0) ≡ false → side ≤ nat_abs z → side ≡ held z side
      go (pos n) t i = rw (le-ltb n side i)
      go (negsuc n) t i = absurd (true≢false t)

-- a step of at most one as the machine reads it
module _ (z : ℤ) (s : nat_abs z ≤ 1) where
  pub read_small : to_z w32 (of_z w32 z) ≡ z
  read_small = to_z-of_z w32 z (small z s)

  pub read_steps : (x side : ℕ) → x < side → side ≤ 4096 → AlongSide x (to_z w32 (of_z w32 z)) side
  read_steps x side h k = record { inside = h; bound = k; small = rw read_small s }

  pub read_shifts : (x side : ℕ) {r : ℕ} → r ≡ shifted_of x (to_z w32 (of_z w32 z)) side → shifted_of x z side ≡ r
  read_shifts x side e = sym (e ∙ ap (λ (k : ℤ). shifted_of x k side) read_small)

-- every entry of a table is -1, 0 or 1
abbrev all_small : List ℤ → Bool
all_small [] = true
all_small (z ∷ l) = leb (nat_abs z) 1 && all_small l

pub entry_small : (l : List ℤ) → T (all_small l) → (d : ℕ) → nat_abs (get_or l d (pos 0)) ≤ 1
entry_small [] t d = lit≤ tt
entry_small (z ∷ l) t zero = leb→le (nat_abs z) 1 (and_l (leb (nat_abs z) 1) (all_small l) t)
entry_small (z ∷ l) t (suc d) = entry_small l (and_r (leb (nat_abs z) 1) (all_small l) t) d
