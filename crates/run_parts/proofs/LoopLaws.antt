-- The loops of a run over its iterations and the passes of each, on any course: what holds of the map and the struct Reached at the loops' tests,
-- and what the code has when it leaves them, after the last turn or by 21 or 22.
use Prim.Native.Nat.{ℕ, ◌+◌, ◌*◌, ◌^◌, ◌≤◌, ◌<◌}
use mathlib.Core.Path.{◌≡◌, refl, sym, ap, ◌∙◌}
use mathlib.Core.Bool.{true, false, cond}
use mathlib.Core.List.{List}
use native.Mathlib.Nat.{mul-le-mul_right}
use native.Mathlib.Omega.{arith}
use borrow.Author.Tests.{ne_eqb}
use lib.Dec.{eqb}
use lib.Ieee.{Float}
use Rattle.loops.proofs.TestLaws.{either}
use Rattle.loops.proofs.TurnLaws.{turns_none, turns_more}
use Rattle.loops.proofs.LoopLaws.{at_end}
use Rattle.generators.specs.Marks.{report_of}
use Rattle.run_machine.specs.Machine.{Course, State, start}
use Rattle.run_machine.specs.Nested.{one_pass, one_opening, passes_after, one_iteration, iterated, nested, Due, Underway, Bounded}
use Rattle.run_machine.proofs.IterationLaws.{opening_none, due_iterated, underway_iterated, nested_stays}
use Rattle.run_machine.proofs.BoundLaws.{asked_room, asked_due}
use Rattle.run_parts.specs.Reached.{Reach, Worked, seen, begun, after_pass, PassReady}
use Rattle.run_parts.proofs.ReachedLaws.{worked, rows_by, pass_seen, opened_by, opening_seen}

-- the run from hs goes on and is due to begin iteration it
pub record Going (c : Course) (hs : List Float) (it : ℕ) (map : List Float) (r : Reach) : Type 0 where
  pub held : worked map r ≡ seen (iterated c it hs)
  pub on : r.number ≡ 0

-- or pass q of that iteration
pub record Sliding (c : Course) (hs : List Float) (it q : ℕ) (map : List Float) (r : Reach) : Type 0 where
  pub held : worked map r ≡ seen (passes_after c q (iterated c it hs))
  pub on : r.number ≡ 0

-- the number of a state that the code holds
same_number : {map : List Float} {r : Reach} (s : State) → worked map r ≡ seen s → r.number ≡ s.number
same_number s e = ap (λ (x : Worked). x.reached.number) e

ended_number : {map : List Float} {r : Reach} (s : State) → worked map r ≡ seen s → (r.number ≡ 0 → ⊥) → eqb s.number 0 ≡ false
ended_number s e z = ne_eqb s.number 0 (λ n. z (same_number s e ∙ n))

module _ (c : Course) (hs : List Float) where
  pub going_none : Going c hs 0 hs begun
  going_none = record { held = ap seen (sym (turns_none (λ i. one_iteration c) (start c hs))); on = refl }

  -- the last iteration is done
  pub going_done : {it : ℕ} {map : List Float} {r : Reach} → worked map r ≡ seen (iterated c it hs) → it ≤ c.iterations → c.iterations ≤ it → worked map r ≡ seen (nested c hs)
  going_done e a b = at_end (λ (n : ℕ). seen (iterated c n hs)) e a b

  -- 21 or 22 ended the run in an iteration
  pub going_ended : (it : ℕ) {map : List Float} {r : Reach} → worked map r ≡ seen (iterated c it hs) → it ≤ c.iterations → (r.number ≡ 0 → ⊥)
      → worked map r ≡ seen (nested c hs)
  going_ended it e l z = e ∙ ap seen (sym (nested_stays c hs it l (ended_number (iterated c it hs) e z)))

  module _ (it : ℕ) where
    -- pass 0 is due after the opening of an iteration, or at once where nothing opens it
    pub sliding_opened : {map : List Float} {r : Reach} → worked map r ≡ seen (one_opening c (iterated c it hs)) → r.number ≡ 0 → Sliding c hs it 0 map r
    sliding_opened e z =
        record { held = e ∙ ap seen (sym (turns_none (λ i. one_pass c) (one_opening c (iterated c it hs)))); on = z }

    pub sliding_first : {map : List Float} {r : Reach} → c.cutting ≡ false → Going c hs it map r → Sliding c hs it 0 map r
    sliding_first f g = sliding_opened (g.held ∙ ap seen (sym (opening_none c (iterated c it hs) f))) g.on

    -- all passes of an iteration are done
    pub sliding_done : (q : ℕ) {map : List Float} {r : Reach} → worked map r ≡ seen (passes_after c q (iterated c it hs)) → q ≡ c.passes
        → worked map r ≡ seen (iterated c (it + 1) hs)
    unfolding one_iteration
    sliding_done q e f =
        e ∙ ap (λ (n : ℕ). seen (passes_after c n (iterated c it hs))) f ∙ ap seen (sym (turns_more (λ i. one_iteration c) it (start c hs)))

    module _ (q : ℕ) {map : List Float} {r : Reach} (some : q < c.passes) (s : Sliding c hs it q map r) where
      underway : Underway c it q (passes_after c q (iterated c it hs))
      underway = underway_iterated c (omega arith) hs it q some (sym (same_number (passes_after c q (iterated c it hs)) s.held) ∙ s.on)

      -- one pass more, as run_pass leaves it
      pub sliding_pass : {x : Worked} → x ≡ after_pass map r (rows_by c it q map r.marks) → x ≡ seen (passes_after c (q + 1) (iterated c it hs))
      sliding_pass {x} e =
          pass_seen c it q (passes_after c q (iterated c it hs)) map r x underway s.held e
          ∙ ap seen (sym (turns_more (λ i. one_pass c) q (one_opening c (iterated c it hs))))

      -- what run_pass asks
      pub sliding_ready : Bounded c → it < c.iterations → {n k : ℕ} → n ≡ c.w * c.h → k ≡ n → PassReady c.w c.h n k r
      sliding_ready b l e f =
          let asked : r.marks.asked ≡ (passes_after c q (iterated c it hs)).marks.asked = ap (λ (x : Worked). x.reached.marks.asked) s.held in
          let counted : r.passes ≡ it * c.passes + q = ap (λ (x : Worked). x.reached.passes) s.held ∙ underway.passes in
          record {
            ready = record {
              some = b.columns;
              wide = b.wide;
              high = b.high;
              heights = e;
              copied = f;
              questions = omega (arith, asked, asked_room c b hs it q l some);
            };
            count = omega (arith, counted, b.passes, mul-le-mul_right c.passes l);
          }

    -- the opening of an iteration, with the counts before it
    module _ {map : List Float} {r : Reach} (g : Going c hs it map r) (b : Bounded c) (l : it < c.iterations) where
      due : Due c it (iterated c it hs)
      due = due_iterated c b.some hs it (sym (same_number (iterated c it hs) g.held) ∙ g.on)

      pub going_asked : r.marks.asked + 1 < 2 ^ 32
      going_asked =
          let asked : r.marks.asked ≡ (iterated c it hs).marks.asked = ap (λ (x : Worked). x.reached.marks.asked) g.held in
          omega (arith, asked, asked_due c b hs it (omega arith))

      pub going_incisions : r.incisions + 1 < 2 ^ 32
      going_incisions =
          let counted : r.incisions ≡ cond c.cutting it 0 = ap (λ (x : Worked). x.reached.incisions) g.held ∙ due.incisions in
          omega (arith, counted, either (λ (n : ℕ). n ≤ it) c.cutting it 0 (omega arith) (omega arith), b.iterations)

      -- as the code leaves it
      pub going_opening : {x : Worked} → c.cutting ≡ true → x ≡ opened_by c it map r (report_of r.marks (c.opening it) c.stop)
          → x ≡ seen (one_opening c (iterated c it hs))
      going_opening {x} t e = opening_seen c it (iterated c it hs) map r x t due g.held e
