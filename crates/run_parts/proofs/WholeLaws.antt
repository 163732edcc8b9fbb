-- The four ways in which a whole run ends, on any course: what the code has after each of them is the run by its loops, and its answer is the run's.
use Rattle.std.specs.declared.result.Result.{Result}
use Rattle.std.specs.declared.result.Result.TheVariants.{Ok, Err}
use Rattle.std.specs.Result.{is_ok, IfErr}
use Rattle.std.proofs.lemmas.Result.{IfErr-at_err}
use Prim.Native.Nat.{ℕ, ◌<◌}
use mathlib.Core.Path.{◌≡◌, refl, sym, ap, ◌∙◌, subst}
use mathlib.Core.Bool.{Bool, true, false, ◌&&◌, cond}
use mathlib.Core.Logic.{inl, inr}
use mathlib.Core.List.{List}
use lib.Dec.{eqb}
use lib.Ieee.{Float}
use Rattle.loops.proofs.TestLaws.{either, through}
use Rattle.grid.specs.Heights.{all_finite}
use Rattle.resample.specs.Blocks.{downsampled}
use Rattle.upsample.specs.Samples.{as_source, added_of}
use Rattle.run_machine.specs.Machine.{Course}
use Rattle.run_machine.specs.Run.{difference_of, run_from, run_on}
use Rattle.run_machine.specs.Nested.{nested}
use Rattle.run_machine.proofs.CourseLaws.{run_nested}
use Rattle.run_parts.specs.declared.Reached.{Reached}
use Rattle.run_parts.specs.declared.Ended.{Ended}
use Rattle.run_parts.specs.Reached.{going, gone, Worked, worked_of, seen, begun, halted, added_to, whole_run, Reduced}
use Rattle.run_parts.specs.Ending.{Numbered}
use Rattle.run_parts.proofs.ReachedLaws.{worked, iterated_numbered, end_number, ok_worked, err_worked}
use Rattle.run_parts.proofs.ReducedLaws as reached
use Rattle.run_parts.proofs.EndingLaws.{ran_by}

module _ (w h : ℕ) (c : Course) (map : List Float) where
  abbrev reduced_map : List Float
  reduced_map = downsampled map w h c.w c.h

  abbrev on_map : Bool
  on_map = eqb c.w w && eqb c.h h

  -- what an answer shows of it is the run
  whole_shown : ran_by (whole_run w h c map) ≡ run_from as_source w h c map (nested c reduced_map) (nested c map)
  unfolding whole_run
  whole_shown = simp (through ran_by)

  pub whole_run_lem : {x : Worked} → x ≡ whole_run w h c map → 0 < c.h → 0 < c.passes → ran_by x ≡ run_on as_source w h c map
  whole_run_lem e high some = ap ran_by e ∙ whole_shown ∙ sym (run_nested as_source w h c map high some)

  -- it ends with one of the three numbers
  pub whole_numbered : {x : Worked} → x ≡ whole_run w h c map → Numbered x.reached.number
  unfolding whole_run
  whole_numbered e =
      subst (λ (x : Worked). Numbered x.reached.number) (sym e)
      (one on_map _ _ (iterated_numbered c c.iterations map)
      (one (all_finite reduced_map) _ _
      (one (eqb (nested c reduced_map).number 0) _ _ (one (all_finite difference && all_finite (added_of as_source map w h difference c.w c.h)) _ _ (inl refl) (inr (inr refl)))
      (iterated_numbered c c.iterations reduced_map)) (inr (inr refl))))
    where
      difference : List Float
      difference = difference_of (nested c reduced_map).heights reduced_map

      one : (b : Bool) (x y : Worked) → Numbered x.reached.number → Numbered y.reached.number → Numbered (cond b x y).reached.number
      one = either (λ (x : Worked). Numbered x.reached.number)

  -- on the map itself
  pub whole_on_map : {x : Worked} → on_map ≡ true → x ≡ seen (nested c map) → x ≡ whole_run w h c map
  unfolding whole_run
  whole_on_map e s = rw e s

  -- on the block averages, by what reduce answered
  module _ (off : on_map ≡ false) {x : Result (Unit {0}) Ended} {small start : List Float} (a : Reduced w h c.w c.h map (is_ok x) small start) where
    -- an average that is not finite
    pub whole_averages : {d : Ended} → x ≡ Err d → IfErr x (λ e. gone e ≡ halted 22 begun.marks begun) → worked map (gone d) ≡ whole_run w h c map
    whole_averages f e = reached.whole_averages w h c map off a (ap is_ok f) (IfErr-at_err (λ e. gone e ≡ halted 22 begun.marks begun) f e)

    -- the reduced grid from which the loops have begun
    module _ {u : Unit {0}} (f : x ≡ Ok u) (eroded : List Float) (y : Result Reached Ended) (s : worked_of eroded y ≡ seen (nested c start)) where
      -- ended early there: the map as it came
      pub whole_ended : {d : Ended} → y ≡ Err d → worked map (gone d) ≡ whole_run w h c map
      whole_ended {d} e = reached.whole_ended w h c map off a (ap is_ok f) eroded (gone d) (err_worked e s) (end_number d.end)

      -- finished there: the difference is added to the map
      pub whole_added : {r : Reached} (x : Worked) → y ≡ Ok r → x ≡ added_to w h c.w c.h map small eroded (going r) → x ≡ whole_run w h c map
      whole_added {r} x z e = reached.whole_added w h c map off a (ap is_ok f) eroded (going r) (ok_worked z s) x refl e
