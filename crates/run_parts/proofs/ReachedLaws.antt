-- A pass as the code sees it is the pass of the state; the difference of the reduced grids; the numbers that a run
-- ends with; and what the code has of a run that goes on or has ended.
use Rattle.std.specs.declared.result.Result.{Result}
use Rattle.std.specs.declared.result.Result.TheVariants.{Ok, Err}
use Prim.Native.Nat.{ℕ, suc, ◌+◌, ◌≤◌, ◌<◌}
use mathlib.Core.Path.{◌≡◌, refl, sym, ap, ◌∙◌}
use mathlib.Core.Bool.{Bool, true, ◌&&◌, cond}
use mathlib.Core.Logic.{inl, inr}
use mathlib.Core.List.{List}
use native.Mathlib.Numerals.{add-one}
use lib.ListN.{length, get_or, set}
use lib.Dec.{eqb}
use lib.Ieee.{Float, nan, binary32, sub}
use Rattle.loops.proofs.TestLaws.{either, through}
use Rattle.loops.proofs.TurnLaws.{turns_keep}
use Rattle.loops.proofs.FillLaws.{Filling, filling_more, filling_next, filling_done}
use Rattle.grid.specs.Heights.{all_finite}
use Rattle.generators.specs.Marks.{report_of}
use Rattle.generators.specs.declared.Progress.{Progress}
use Rattle.thermal_erosion.specs.SlidePass.{Pass, rows_of}
use Rattle.run_machine.specs.Machine.{Course, State, start, ended_by, cut, open_step, closed}
use Rattle.run_machine.specs.Run.{difference_of}
use Rattle.run_machine.specs.Nested.{rows_from, pass_done, one_pass, one_opening, one_iteration, iterated, Due, Underway}
use Rattle.run_machine.proofs.IterationLaws.{pass_is, opening_is, rows_at}
use Rattle.run_parts.specs.declared.Reached.{Reached}
use Rattle.run_parts.specs.declared.End.{End}
use Rattle.run_parts.specs.declared.End.TheVariants.{Stopped, RunOff}
use Rattle.run_parts.specs.declared.Ended.{Ended}
use Rattle.run_parts.specs.Reached.{Reach, number_of_end, going, gone, reach_of, Worked, worked_of, reached_in, seen, halted, after_made, after_pass}
use Rattle.run_parts.specs.Ending.{Numbered}

-- the rows of pass q of iteration it from a map
abbrev pub rows_by : Course → ℕ → ℕ → List Float → Progress → Pass
rows_by c it q map m =
    rows_of c.w c.h c.thresholds c.strength c.water map (c.begins it q) (c.begins it (suc q)) c.stop c.h m

abbrev pub worked : List Float → Reach → Worked
worked map r = record { heights = map; reached = r }

seen_done : (c : Course) (s : State) (p : Pass) → seen (pass_done c s p) ≡ after_pass s.heights (reached_in s) p
seen_done c s p = rw add-one (simp (through seen))

-- what the code leaves of a pass is the state after it
pub pass_seen : (c : Course) (it q : ℕ) (s : State) (map : List Float) (r : Reach) (x : Worked)
    → Underway c it q s
    → record { heights = map; reached = r } ≡ seen s
    → x ≡ after_pass map r (rows_by c it q map r.marks)
    → x ≡ seen (one_pass c s)
pass_seen c it q s map r x u e f =
    f ∙ ap (λ (x : Worked). after_pass x.heights x.reached (rows_by c it q x.heights x.reached.marks)) e
    ∙ ap (after_pass s.heights (reached_in s)) (sym (rows_at c it s q u c.h))
    ∙ sym (ap seen (pass_is c s u.number) ∙ seen_done c s (rows_from c c.h s))

-- the opening of iteration it from a map, after its question
abbrev pub opened_by : Course → ℕ → List Float → Reach → Progress → Worked
opened_by c it map r m =
    after_made map r m (c.incision it map) (record { marks = m; incisions = r.incisions + 1; passes = r.passes; number = 0 })

seen_opened : (c : Course) (s : State) → seen (open_step c s) ≡ opened_by c s.iteration s.heights (reached_in s) (report_of s.marks (c.opening s.iteration) c.stop)
seen_opened c s = rw add-one (simp (through seen))

-- what the code leaves of an opening is the state after it
pub opening_seen : (c : Course) (it : ℕ) (s : State) (map : List Float) (r : Reach) (x : Worked)
    → c.cutting ≡ true
    → Due c it s
    → record { heights = map; reached = r } ≡ seen s
    → x ≡ opened_by c it map r (report_of r.marks (c.opening it) c.stop)
    → x ≡ seen (one_opening c s)
opening_seen c it s map r x t d e f =
    f ∙ ap (λ (x : Worked). opened_by c it x.heights x.reached (report_of x.reached.marks (c.opening it) c.stop)) e
    ∙ ap (λ (it : ℕ). opened_by c it s.heights (reached_in s) (report_of s.marks (c.opening it) c.stop)) (sym d.iteration)
    ∙ sym (ap seen (opening_is c s t d.number) ∙ seen_opened c s)

-- what holds of the three ends of an incision or a pass holds after it
pub made_cases : (P : Worked → Type 0) (hs : List Float) (r : Reach) (m : Progress) (new : List Float) (completed : Reach)
    → P (worked hs (halted 21 m r)) → P (worked new completed) → P (worked hs (halted 22 m r)) → P (after_made hs r m new completed)
made_cases P hs r m new completed p q u = either P m.stopped _ _ p (either P (all_finite new) _ _ q u)

-- the loop that takes the difference: after i turns the first i places hold it
abbrev pub subtracted : List Float → List Float → ℕ → Float
subtracted old small k = sub binary32 (get_or old k nan) (get_or small k nan)

module _ (old small : List Float) {new : List Float} {i : ℕ} (s : Filling (subtracted old small) i old new) where
  pub subtracted_more : i < length old → Filling (subtracted old small) (i + 1) old (set new i (sub binary32 (get_or new i nan) (get_or small i nan)))
  subtracted_more l = filling_more s (ap (λ (x : Float). sub binary32 x (get_or small i nan)) (filling_next s nan)) l

  pub subtracted_done : length old ≡ length small → length small ≤ i → new ≡ difference_of old small
  unfolding difference_of
  subtracted_done n l = filling_done s (length small) n l

-- every state of a run has one of the three numbers
module _ (c : Course) where
  -- a choice between states that have one has one
  each_numbered : (b : Bool) (x y : State) → Numbered x.number → Numbered y.number → Numbered (cond b x y).number
  each_numbered = either (λ (x : State). Numbered x.number)

  made_numbered : (m : Progress) (new : List Float) (s t : State) → t.number ≡ 0 → Numbered (cond m.stopped (ended_by c 21 m s) (cond (all_finite new) t (ended_by c 22 m s))).number
  made_numbered m new s t z = each_numbered m.stopped _ _ (inr (inl refl)) (each_numbered (all_finite new) _ _ (inl z) (inr (inr refl)))

  pass_numbered : (s : State) → Numbered s.number → Numbered (one_pass c s).number
  unfolding one_pass
  pass_numbered s n = let p : Pass = rows_from c c.h s in each_numbered (eqb s.number 0) _ s (made_numbered p.marks p.out s (closed c p.out p.marks s) refl) n

  opening_numbered : (s : State) → Numbered s.number → Numbered (one_opening c s).number
  unfolding one_opening
  opening_numbered s n =
      let m : Progress = report_of s.marks (c.opening s.iteration) c.stop in
      let new : List Float = c.incision s.iteration s.heights in
      each_numbered (c.cutting && eqb s.number 0) _ s (made_numbered m new s (cut c new m s) refl) n

  pub iterated_numbered : (n : ℕ) (hs : List Float) → Numbered (iterated c n hs).number
  unfolding one_iteration
  iterated_numbered n hs =
      turns_keep (λ i. one_iteration c) (λ s. Numbered s.number) (start c hs) n (inl refl)
      (λ i s l p. turns_keep (λ i. one_pass c) (λ s. Numbered s.number) (one_opening c s) c.passes (opening_numbered s p) (λ i t l. pass_numbered t))

-- the number of an end is not 0
pub end_number : (e : End) → number_of_end e ≡ 0 → ⊥
end_number Stopped z = cc
end_number RunOff z = cc

-- what the code has after a call, by the variant that the call answered
module _ {x : Result Reached Ended} where
  pub ok_worked : {hs : List Float} {y : Worked} {r : Reached} → x ≡ Ok r → worked_of hs x ≡ y → worked hs (going r) ≡ y
  ok_worked {hs} e f = ap (worked_of hs) (sym e) ∙ f

  pub err_worked : {hs : List Float} {y : Worked} {d : Ended} → x ≡ Err d → worked_of hs x ≡ y → worked hs (gone d) ≡ y
  err_worked {hs} e f = ap (worked_of hs) (sym e) ∙ f

  pub err_number : {d : Ended} → x ≡ Err d → (reach_of x).number ≡ 0 → ⊥
  err_number {d} e z = end_number d.end (ap (λ (x : Result Reached Ended). (reach_of x).number) (sym e) ∙ z)
