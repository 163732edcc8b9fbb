-- One direction as the code works it out: each value on its own, chosen by whether the excess is counted.
use Prim.Native.Nat.{ℕ}
use mathlib.Core.Path.{◌≡◌, refl, ap, ◌∙◌}
use mathlib.Core.Bool.{Bool, true, false, cond}
use mathlib.Core.List.{List}
use lib.ListN.{get_or, set}
use lib.Seq.{set-get_or}
use lib.Ieee.{Float, nan, binary32, of_bits, add, mul, div, lt}
use Rattle.floats.specs.Stand.{max_of}
use Rattle.loops.proofs.TestLaws.{through₂}
use Rattle.talus.specs.Talus.{excess_to, shed_to, gain_to}
use Rattle.talus.specs.declared.Shed.{Shed}

abbrev shed_of_lem : Float → Float → Shed
shed_of_lem t g = record { total = t; greatest = g }

set_part : (b : Bool) (out : List Float) (m : ℕ) (v : Float) → set out m (cond b v (get_or out m nan)) ≡ cond b (set out m v) out
set_part true out m v = refl
set_part false out m v = set-get_or out m nan

module _ (ts hs : List Float) (c m d : ℕ) where
  pub shed_counted : (s : Shed) {e total most greatest : Float}
      → e ≡ excess_to ts hs c m d
      → total ≡ cond (lt (of_bits binary32 0) e) (add binary32 s.total e) s.total
      → most ≡ max_of s.greatest e
      → greatest ≡ cond (lt (of_bits binary32 0) e) most s.greatest
      → ◌≡◌ {A = Shed} (record { total = total; greatest = greatest }) (shed_to ts hs c m d s)
  unfolding shed_to
  shed_counted s x e f g = rw (g, f, e, x) (through₂ shed_of_lem (lt (of_bits binary32 0) (excess_to ts hs c m d)) _ _ _ _)

  pub gain_counted : (moved total : Float) (out : List Float) {e v : Float}
      → e ≡ excess_to ts hs c m d
      → v ≡ cond (lt (of_bits binary32 0) e) (add binary32 (get_or out m nan) (div binary32 (mul binary32 moved e) total)) (get_or out m nan)
      → set out m v ≡ gain_to ts hs c m moved total d out
  unfolding gain_to
  gain_counted moved total out x e = ap (set out m) e ∙ rw x (set_part (lt (of_bits binary32 0) (excess_to ts hs c m d)) out m _)
