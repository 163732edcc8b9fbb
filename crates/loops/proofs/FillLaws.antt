-- A loop that stores f 0, f 1, … into a list from the front: its invariant, at the start, after one store and at the end.
use Prim.Native.Nat.{ℕ, ◌+◌, ◌*◌, ◌≤◌, ◌<◌}
use mathlib.Core.Path.{◌≡◌, ap, ap₂, ◌∙◌, subst}
use mathlib.Core.List.{List}
use native.Mathlib.Nat.{mul_comm, mul-le-mul_right}
use native.Mathlib.Omega.{arith}
use lib.ListN.{length, get_or, set}
use Rattle.loops.specs.Loops.{tabulate}
use Rattle.loops.proofs.LoopLaws.{at_end}
use Rattle.loops.proofs.TableLaws.{filled, filled_none, filled_length, filled_more, filled_done, filled_ahead, tabulate_get_d}

-- the list `old` after i stores is `new`
pub record Filling {A : Type 0} (f : ℕ → A) (i : ℕ) (old new : List A) : Type 0 where
  pub held : new ≡ filled f i old
  pub within : i ≤ length old

pub filling_none : {A : Type 0} {f : ℕ → A} {old : List A} → Filling f 0 old old
filling_none {A} {f} {old} = record { held = filled_none f old; within = omega arith }

module _ {A : Type 0} {f : ℕ → A} {i : ℕ} {old new : List A} (p : Filling f i old new) where
  pub filling_length : length new ≡ length old
  filling_length = ap length p.held ∙ filled_length f i old p.within

  pub filling_more : {v : A} → v ≡ f i → i < length old → Filling f (i + 1) old (set new i v)
  filling_more e l = record {
    held = ap₂ (λ (d : List A) (x : A). set d i x) p.held e ∙ filled_more f i old l;
    within = omega arith;
  }

  -- the next place still holds what it held
  pub filling_next : (d : A) → get_or new i d ≡ get_or old i d
  filling_next d = ap (λ (l : List A). get_or l i d) p.held ∙ filled_ahead f i i old d (omega arith)

  -- a loop that has stored n values
  pub stored : {n : ℕ} → i ≤ n → n ≤ i → new ≡ filled f n old
  stored a b = at_end (λ (k : ℕ). filled f k old) p.held a b

  pub filling_done : (n : ℕ) → length old ≡ n → n ≤ i → new ≡ tabulate n f
  filling_done n e l = stored (omega (arith, p.within)) l ∙ filled_done f n old e

-- row after row of w values
pub filling_start : {A : Type 0} {f : ℕ → A} {old : List A} (w : ℕ) → Filling f (0 * w) old old
filling_start {A} {f} {old} w = let e : 0 ≡ 0 * w = omega arith in subst (λ (i : ℕ). Filling f i old old) e filling_none

pub filling_rows : {A : Type 0} {f : ℕ → A} (w : ℕ) {h y : ℕ} {old new : List A} → Filling f (y * w) old new → length old ≡ w * h → h ≤ y → new ≡ tabulate (w * h) f
filling_rows w {h} p e l = filling_done p (w * h) e (omega (arith, mul_comm w h, mul-le-mul_right w l))

-- a loop that copies the list hs
pub copied : {A : Type 0} {hs old new : List A} {i : ℕ} (d : A) → Filling (λ k. get_or hs k d) i old new → length old ≡ length hs → length hs ≤ i → new ≡ hs
copied {A} {hs} d p n l = filling_done p (length hs) n l ∙ tabulate_get_d hs d
