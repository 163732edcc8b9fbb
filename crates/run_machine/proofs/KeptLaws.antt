-- Between passes the heights are those of the grid: as many as its cells, all binary32 values, all finite; also where the run has ended.
use Prim.Native.Nat.{ℕ}
use mathlib.Core.Path.{◌≡◌, refl, ◌∙◌}
use mathlib.Core.Bool.{true, ◌&&◌}
use mathlib.Core.List.{List}
use lib.Dec.{eqb}
use lib.Ieee.{Float}
use Rattle.loops.proofs.TestLaws.{either}
use Rattle.loops.proofs.TurnLaws.{turns_keep}
use Rattle.grid.specs.Heights.{all_finite}
use Rattle.thermal_erosion.specs.SlidePass.{Pass}
use Rattle.thermal_erosion.proofs.PassLaws.{rows_length_lem, rows_fit}
use Rattle.run_machine.specs.Machine.{Course, State, start, open_step, closed}
use Rattle.run_machine.specs.Nested.{rows_from, pass_done, one_pass, one_opening, passes_after, one_iteration, iterated}
use Rattle.run_machine.proofs.SoundLaws.{Sized, Sound, made_sound, open_sound}

module _ (n : ℕ) (c : Course) where
  rows_sized : (s : State) → Sound n s → Sized n (rows_from c c.h s).out
  rows_sized s p =
      record {
        long = rows_length_lem c.w c.h c.thresholds c.strength c.water s.heights _ _ c.stop s.marks c.h ∙ p.heights.long;
        fit = rows_fit c.w c.h c.thresholds c.strength c.water s.heights _ _ c.stop s.marks c.h p.heights.fit;
      }

  pass_sound : (s : State) → Sound n s → Sound n (one_pass c s)
  unfolding one_pass
  pass_sound s p =
      let r : Pass = rows_from c c.h s in
      either (Sound n) (eqb s.number 0) (pass_done c s r) s (made_sound n c s p (closed c r.out r.marks s) r.out r.marks (rows_sized s p) refl refl r.marks.stopped) p

  module _ (cuts : (it : ℕ) (hs : List Float) → Sized n hs → Sized n (c.incision it hs)) where
    opening_sound : (s : State) → Sound n s → Sound n (one_opening c s)
    unfolding one_opening
    opening_sound s p = either (Sound n) (c.cutting && eqb s.number 0) (open_step c s) s (open_sound n c cuts s p) p

    pub passes_sound : (s : State) → Sound n s → (q : ℕ) → Sound n (passes_after c q s)
    passes_sound s p q = turns_keep (λ i. one_pass c) (Sound n) (one_opening c s) q (opening_sound s p) (λ i t l. pass_sound t)

    iteration_sound : (s : State) → Sound n s → Sound n (one_iteration c s)
    unfolding one_iteration
    iteration_sound s p = passes_sound s p c.passes

    pub iterated_sound : (hs : List Float) → Sized n hs → all_finite hs ≡ true → (k : ℕ) → Sound n (iterated c k hs)
    iterated_sound hs z f k =
        turns_keep (λ i. one_iteration c) (Sound n) (start c hs) k (record { heights = z; finite = f; copy = z }) (λ i t l. iteration_sound t)
