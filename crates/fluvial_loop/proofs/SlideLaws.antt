-- The passes of an iteration: the loop over them, and that what it leaves is the state after them.
use Prim.Native.Nat.{ℕ, suc, ◌+◌, ◌-◌, ◌*◌, ◌≤◌, ◌<◌}
use mathlib.Core.Path.{◌≡◌, refl, sym, ap, ◌∙◌, subst}
use mathlib.Core.Bool.{Bool, true, false}
use mathlib.Core.List.{List}
use native.Mathlib.Nat.{mul-le-mul_right}
use native.Mathlib.Numerals.{add-one}
use native.Mathlib.Omega.{arith}
use borrow.Author.Tests.{eq-eqb, ne_eqb, eqb-true}
use lib.ListN.{length}
use lib.Dec.{T, eqb}
use lib.IntN.{pos}
use lib.Ieee.{Float, binary32, in_float}
use Rattle.floats.proofs.WholeLaws.{float_in}
use Rattle.loops.specs.Loops.{turns}
use Rattle.loops.proofs.TestLaws.{either}
use Rattle.loops.proofs.TurnLaws.{turns_none, turns_more, turns_hold, turns_stay, turns_through}
use Rattle.loops.proofs.LoopLaws.{at_end}
use Rattle.thermal_erosion.specs.SlidePass.{Pass, rows_of}
use Rattle.thermal_erosion.proofs.PassLaws as Rows
use Rattle.run_machine.specs.Machine.{Course, State}
use Rattle.run_machine.specs.Nested.{one_pass, one_opening, one_iteration, Due, Bounded}
use Rattle.run_machine.proofs.PassLaws.{pass_ended}
use Rattle.run_machine.proofs.IterationLaws.{Place, place_opening, place_pass}
use Rattle.run_parts.specs.Reached.{Reach, Worked, seen, halted, after_pass, PassReady}
use Rattle.run_parts.proofs.ReachedLaws.{worked, rows_by, pass_seen, made_cases}
use Rattle.fluvial_loop.specs.Loops.{course_by, passed_by, slid_by, Places, Slides}
use Rattle.fluvial_loop.specs.declared.FluvialPlan.{FluvialPlan}

-- a count is exact in binary32
pub count_float : (n : ℕ) → n ≤ 32768 → T (in_float binary32 (pos n))
count_float n h = float_in n (omega arith)

-- passes of a bounded course
passes_few : (c : Course) → Bounded c → c.passes ≤ 32768
passes_few c b = omega (arith, b.passes, mul-le-mul_right c.passes b.due)

-- the counts up to its last pass
pub slides_places : {w h stop it map copy : ℕ} {plan : FluvialPlan} {r : Reach} → Slides (course_by w h plan stop) it map copy r → (q : ℕ) → q ≤ plan.passes → Places plan it q
slides_places s q l = record {
  iteration = omega (arith, s.due, s.bounded.iterations);
  passed = omega (arith, passes_few _ s.bounded);
  iterations = s.bounded.iterations;
  passes = passes_few _ s.bounded;
}

-- a pass asks at most one question for each row, and completes at most one pass
module _ (c : Course) (it q : ℕ) (x : Worked) where
  abbrev rows : Pass
  rows = rows_by c it q x.heights x.reached.marks

  rows_asked : rows.marks.asked ≤ x.reached.marks.asked + c.h
  rows_asked =
      Rows.rows_asked c.w c.h c.thresholds c.strength c.water x.heights (c.begins it q) (c.begins it (suc q)) c.stop x.reached.marks c.h

  -- what holds of the run as it was, and of the ends of a pass, holds after pass q
  passed_cases : (P : Worked → Type 0) → P x → P (worked x.heights (halted 21 rows.marks x.reached))
      → P (worked rows.out (record { marks = rows.marks; incisions = x.reached.incisions; passes = x.reached.passes + 1; number = 0 }))
      → P (worked x.heights (halted 22 rows.marks x.reached)) → P (passed_by c it q x)
  passed_cases P ended stopped done off = either P (eqb x.reached.number 0) _ x (made_cases P x.heights x.reached rows.marks rows.out _ stopped done off) ended

  passed_asked : (passed_by c it q x).reached.marks.asked ≤ x.reached.marks.asked + c.h
  passed_asked = passed_cases (λ (y : Worked). y.reached.marks.asked ≤ x.reached.marks.asked + c.h) (omega arith) rows_asked rows_asked rows_asked

  passed_count : (passed_by c it q x).reached.passes ≤ x.reached.passes + 1
  passed_count = passed_cases (λ (y : Worked). y.reached.passes ≤ x.reached.passes + 1) (omega arith) (omega arith) (omega arith) (omega arith)

  passed_ended : (x.reached.number ≡ 0 → ⊥) → passed_by c it q x ≡ x
  passed_ended z = rw (ne_eqb x.reached.number 0 z)

-- the loop over the passes: after q of them
pub record Slid (c : Course) (it : ℕ) (x : Worked) (q : ℕ) (map : List Float) (r : Reach) (copy : ℕ) : Type 0 where
  pub within : q ≤ c.passes
  pub held : worked map r ≡ slid_by c it q x
  pub long : length map ≡ length x.heights
  pub copied : copy ≡ length x.heights

module _ (c : Course) (it : ℕ) (x : Worked) where
  slid_counts : (q : ℕ) → ((slid_by c it q x).reached.marks.asked ≤ x.reached.marks.asked + q * c.h) × ((slid_by c it q x).reached.passes ≤ x.reached.passes + q)
  unfolding slid_by
  slid_counts q =
      turns_hold (passed_by c it) (λ i y. (y.reached.marks.asked ≤ x.reached.marks.asked + i * c.h) × (y.reached.passes ≤ x.reached.passes + i)) x q
      (omega arith, omega arith)
      (λ i y l h. (omega (arith, h.0, passed_asked c it i y), omega (arith, h.1, passed_count c it i y)))

  pub slid_none : {copy : ℕ} → copy ≡ length x.heights → Slid c it x 0 x.heights x.reached copy
  unfolding slid_by
  slid_none e = record { within = omega arith; held = sym (turns_none (passed_by c it) x); long = refl; copied = e }

  module _ (q : ℕ) (map : List Float) (r : Reach) (copy : ℕ) (s : Slid c it x q map r copy) where
    -- what the next pass asks
    pub slid_ready : {k : ℕ} → Slides c it (length x.heights) k x.reached → q < c.passes → PassReady c.w c.h (length map) copy r
    slid_ready a l =
        let asked : r.marks.asked ≡ (slid_by c it q x).reached.marks.asked = ap (λ (y : Worked). y.reached.marks.asked) s.held in
        let counted : r.passes ≡ (slid_by c it q x).reached.passes = ap (λ (y : Worked). y.reached.passes) s.held in
        record {
          ready = record {
            some = a.bounded.columns;
            wide = a.bounded.wide;
            high = a.bounded.high;
            heights = s.long ∙ a.heights;
            copied = s.copied ∙ sym s.long;
            questions = omega (arith, asked, (slid_counts q).0, mul-le-mul_right c.h l, a.questions);
          };
          count = omega (arith, counted, (slid_counts q).1, a.count);
        }

    -- one pass more
    pub slid_more : {ts : List Float} {from to : Float} {new : List Float} {e : Reach} {k : ℕ} → q < c.passes → r.number ≡ 0
        → ts ≡ c.thresholds → from ≡ c.begins it q → to ≡ c.begins it (q + 1)
        → worked new e ≡ after_pass map r (rows_of c.w c.h ts c.strength c.water map from to c.stop c.h r.marks)
        → length new ≡ length map → k ≡ copy → Slid c it x (q + 1) new e k
    unfolding slid_by
    slid_more {ts} {from} {to} {new} {e} l z t u v f g k =
        let on : eqb r.number 0 ≡ true = eq-eqb r.number 0 z in
        let made : worked new e ≡ after_pass map r (rows_by c it q map r.marks) =
        f ∙ (λ i. after_pass map r (rows_of c.w c.h (t i) c.strength c.water map (u i) ((v ∙ ap (c.begins it) (add-one q)) i) c.stop c.h r.marks)) in
        let passed : worked new e ≡ passed_by c it q (worked map r) = made ∙ rw on in
        record {
          within = omega arith;
          held = passed ∙ ap (passed_by c it q) s.held ∙ sym (turns_more (passed_by c it) q x);
          long = g ∙ s.long;
          copied = k ∙ s.copied;
        }

    pub slid_on : {e : Reach} → r ≡ e → Slid c it x q map e copy
    slid_on f = subst (λ (r : Reach). Slid c it x q map r copy) f s

    -- all are done, or the run has ended
    pub slid_done : c.passes ≤ q → worked map r ≡ slid_by c it c.passes x
    slid_done l = at_end (λ (n : ℕ). slid_by c it n x) s.held s.within l

    pub slid_ended : (r.number ≡ 0 → ⊥) → worked map r ≡ slid_by c it c.passes x
    unfolding slid_by
    slid_ended z =
        let e : c.passes ≡ q + (c.passes - q) = omega (arith, s.within) in
        s.held ∙ sym (ap (λ (n : ℕ). turns n (passed_by c it) x) e
        ∙ turns_stay (passed_by c it) x q (c.passes - q) (λ j. passed_ended c it j (turns q (passed_by c it) x) (λ o. z (ap (λ (y : Worked). y.reached.number) s.held ∙ o))))

-- the passes after the opening of an iteration are those of the state
module _ (c : Course) (it : ℕ) (s : State) (d : s.number ≡ 0 → Due c it s) (some : 0 < c.passes) where
  pass_through : (q : ℕ) (t : State) → q < c.passes → Place c it q t → seen (one_pass c t) ≡ passed_by c it q (seen t)
  pass_through q t l p = go (eqb t.number 0) refl
    where
      go : (b : Bool) → eqb t.number 0 ≡ b → seen (one_pass c t) ≡ passed_by c it q (seen t)
      go true e =
          sym (pass_seen c it q t t.heights (seen t).reached (passed_by c it q (seen t)) ((p (eqb-true t.number 0 e)).0 l) refl (rw e))
      go false e = ap seen (pass_ended c t e) ∙ sym (rw e)

  pub slid_seen : seen (one_iteration c s) ≡ slid_by c it c.passes (seen (one_opening c s))
  unfolding one_iteration slid_by
  slid_seen =
      turns_through (λ i. one_pass c) (passed_by c it) seen (Place c it) (one_opening c s) c.passes
      (place_opening c it s some d) (place_pass c it) (λ i t k p. pass_through i t k p)
