-- The ends of a run on the block averages, for any record of what it has reached: what the code has after each of them
-- is the run by its loops. WholeLaws has the same for what the calls of the code answer.
use Prim.Native.Nat.{ℕ}
use mathlib.Core.Path.{◌≡◌, sym, ap, ◌∙◌}
use mathlib.Core.Bool.{Bool, true, false, ◌&&◌}
use mathlib.Core.List.{List}
use borrow.Author.Tests.{eq-eqb, ne_eqb}
use lib.Dec.{eqb}
use lib.Ieee.{Float}
use Rattle.grid.specs.Heights.{all_finite}
use Rattle.resample.specs.Blocks.{downsampled}
use Rattle.run_machine.specs.Machine.{Course}
use Rattle.run_machine.specs.Nested.{nested}
use Rattle.run_parts.specs.Reached.{Reach, Worked, seen, begun, halted, added_to, whole_run, Reduced}
use Rattle.run_parts.proofs.ReachedLaws.{worked}

module _ (w h : ℕ) (c : Course) (map : List Float) where
  abbrev reduced_map : List Float
  reduced_map = downsampled map w h c.w c.h

  module _ (off : (eqb c.w w && eqb c.h h) ≡ false) {finite : Bool} {small start : List Float} (a : Reduced w h c.w c.h map finite small start) where
    -- an average that is not finite
    pub whole_averages : {x : Reach} → finite ≡ false → x ≡ halted 22 begun.marks begun → worked map x ≡ whole_run w h c map
    unfolding whole_run
    whole_averages f e =
        let g : all_finite reduced_map ≡ false = sym a.finites ∙ f in
        rw (off, g) (ap (worked map) e)

    -- the reduced grid from which the loops have begun
    module _ (f : finite ≡ true) (eroded : List Float) (r : Reach) (s : worked eroded r ≡ seen (nested c start)) where
      began : worked eroded r ≡ seen (nested c reduced_map)
      began = s ∙ ap (λ (hs : List Float). seen (nested c hs)) a.started

      -- ended by 21 or 22 there: the map as it came
      pub whole_ended : (r.number ≡ 0 → ⊥) → worked map r ≡ whole_run w h c map
      unfolding whole_run
      whole_ended z =
          let g : all_finite reduced_map ≡ true = sym a.finites ∙ f in
          let n : eqb (nested c reduced_map).number 0 ≡ false =
          ne_eqb (nested c reduced_map).number 0 (λ e. z (ap (λ (x : Worked). x.reached.number) began ∙ e)) in
          rw (off, g, n) (ap (λ (x : Worked). worked map x.reached) began)

      -- finished there: the difference is added to the map
      pub whole_added : (x : Worked) → r.number ≡ 0 → x ≡ added_to w h c.w c.h map small eroded r → x ≡ whole_run w h c map
      unfolding whole_run
      whole_added x z e =
          let g : all_finite reduced_map ≡ true = sym a.finites ∙ f in
          let n : eqb (nested c reduced_map).number 0 ≡ true =
          eq-eqb (nested c reduced_map).number 0 (sym (ap (λ (x : Worked). x.reached.number) began) ∙ z) in
          e ∙ ap (λ (l : List Float). added_to w h c.w c.h map l eroded r) a.averages
          ∙ ap (λ (x : Worked). added_to w h c.w c.h map reduced_map x.heights x.reached) began
          ∙ sym (rw (off, g, n))
