-- The rows of a pass, step by step, make the pass: h steps from a state that is about to begin one are `one_pass`.
use Prim.Native.Nat.{ℕ, zero, suc, ◌≤◌, ◌<◌}
use mathlib.Core.Path.{◌≡◌, refl, sym, ap, ◌∙◌, subst}
use mathlib.Core.Bool.{Bool, true, false, cond}
use mathlib.Core.List.{List}
use native.Mathlib.Omega.{arith}
use borrow.Author.Tests.{lt-ltb, le-ltb, lt-leb}
use lib.Dec.{eqb, leb}
use lib.Ieee.{Float}
use Rattle.loops.specs.Loops.{turns}
use Rattle.grid.specs.Heights.{all_finite}
use Rattle.generators.specs.Marks.{report_of}
use Rattle.generators.specs.declared.Progress.{Progress}
use Rattle.generators.proofs.MarksLaws.{report_stopped, report_on}
use Rattle.talus.specs.Talus.{slide_row}
use Rattle.thermal_erosion.specs.SlidePass as SlidePass
use Rattle.thermal_erosion.specs.SlidePass.{Pass, fraction_of, rows_of}
use Rattle.run_machine.specs.Machine.{Course, State, pass_at, ended_by, closed, row_step, step}
use Rattle.run_machine.specs.Nested.{rows_from, pass_done, one_pass, dropped}

-- a run that has ended stays
module _ (c : Course) (s : State) (ended : eqb s.number 0 ≡ false) where
  pub step_ended : step c s ≡ s
  unfolding step
  step_ended = rw ended

  pub pass_ended : one_pass c s ≡ s
  unfolding one_pass
  pass_ended = rw ended

-- a state about to begin a pass, as it stands after r rows of which p came
module _ (s : State) where
  abbrev sliding : ℕ → Pass → State
  sliding r p = pass_at p.out r p.marks 0 s

  abbrev before_rows : State
  before_rows = sliding 0 (record { out = s.heights; marks = s.marks })

-- a question in the rows p of the pass has stopped the run
record Halted (c : Course) (s : State) (p : Pass) (t : State) : Type 0 where
  number : t.number ≡ 21
  stopped : p.marks.stopped ≡ true
  same : dropped t ≡ ended_by c 21 p.marks (before_rows s)

-- after r rows of the pass, p, the run is among them or was stopped
data Among (c : Course) (s : State) (r : ℕ) (p : Pass) (t : State) : Type 0 where
  going : t ≡ sliding s r p → Among c s r p t
  halted : Halted c s p t → Among c s r p t

halted_done : (c : Course) (s : State) (p : Pass) (t : State) → Halted c s p t → dropped t ≡ pass_done c (before_rows s) p
halted_done c s p t e = e.same ∙ sym (rw e.stopped)

module _ (c : Course) (s : State) where
  -- row r, its copy and its question, after p
  abbrev next : ℕ → Pass → Pass
  next r p =
      SlidePass.pass_row c.w c.h c.thresholds c.strength c.water s.heights (c.begins s.iteration s.pass)
      (c.begins s.iteration (suc s.pass)) c.stop r p

  abbrev made : ℕ → Pass → List Float
  made r p = slide_row c.w c.h c.thresholds s.heights c.strength c.water r p.out

  abbrev questioned : ℕ → Pass → Progress
  questioned r p =
      report_of p.marks (fraction_of (c.begins s.iteration s.pass) (c.begins s.iteration (suc s.pass)) c.h r) c.stop

  module _ (r : ℕ) (p : Pass) where
    abbrev slidden : Pass
    slidden = record { out = made r p; marks = questioned r p }

    next_marks : (next r p).marks ≡ questioned r p
    next_marks = go p.marks.stopped refl
      where
        go : (b : Bool) → p.marks.stopped ≡ b → (cond p.marks.stopped p slidden).marks ≡ questioned r p
        go true e = ap (λ (b : Bool). (cond b p slidden).marks) e ∙ sym (report_stopped p.marks _ c.stop e)
        go false e = ap (λ (b : Bool). (cond b p slidden).marks) e

    next_on : (questioned r p).stopped ≡ false → next r p ≡ slidden
    next_on h = ap (λ (b : Bool). cond b p slidden) (report_on p.marks _ c.stop h)

  rows_none : rows_from c 0 s ≡ record { out = s.heights; marks = s.marks }
  unfolding rows_of turns
  rows_none = refl

  rows_next : (r : ℕ) → rows_from c (suc r) s ≡ next r (rows_from c r s)
  unfolding rows_of turns
  rows_next r = refl

module _ (c : Course) (s : State) (due : leb c.iterations s.iteration ≡ false) (opened : s.opened ≡ true) where
  module _ (r : ℕ) (p : Pass) where
    row_step_lem : step c (sliding s r p) ≡ row_step c (sliding s r p)
    unfolding step
    row_step_lem = rw (due, opened)

    row_stopped : (questioned c s r p).stopped ≡ true → step c (sliding s r p) ≡ ended_by c 21 (questioned c s r p) (sliding s r p)
    row_stopped e = row_step_lem ∙ rw e

    row_slid : (questioned c s r p).stopped ≡ false → suc r < c.h → step c (sliding s r p) ≡ sliding s (suc r) (slidden c s r p)
    row_slid e l = row_step_lem ∙ rw (e, lt-ltb (suc r) c.h l)

    row_last : (questioned c s r p).stopped ≡ false → c.h ≤ suc r → dropped (step c (sliding s r p)) ≡ pass_done c (before_rows s) (slidden c s r p)
    row_last e l = ap dropped (row_step_lem ∙ rw (e, le-ltb (suc r) c.h l)) ∙ go (all_finite (made c s r p)) ∙ rw e
      where
        go : (b : Bool) → dropped (cond b (closed c (made c s r p) (questioned c s r p) s) (ended_by c 22 (questioned c s r p) (sliding s r p)))
            ≡ cond b (closed c (made c s r p) (questioned c s r p) s) (ended_by c 22 (questioned c s r p) (before_rows s))
        go true = refl
        go false = refl

    -- a row that stops the run
    halts : (questioned c s r p).stopped ≡ true → Halted c s (next c s r p) (step c (sliding s r p))
    halts e =
        record {
          number = ap (λ (x : State). x.number) (row_stopped e);
          stopped = ap (λ (m : Progress). m.stopped) (next_marks c s r p) ∙ e;
          same = ap dropped (row_stopped e) ∙ ap (λ (m : Progress). ended_by c 21 m (before_rows s)) (sym (next_marks c s r p));
        }

    -- and one after it
    stays : (t : State) → Halted c s p t → Halted c s (next c s r p) (step c t)
    stays t e =
        subst (λ (x : State). Halted c s (next c s r p) x) (sym (step_ended c t (ap (λ (i : ℕ). eqb i 0) e.number)))
        (subst (λ (x : Pass). Halted c s x t) (sym (ap (λ (b : Bool). cond b p (slidden c s r p)) e.stopped)) e)

    -- one row more, which is not the last
    among_more : (t : State) → suc r < c.h → Among c s r p t → Among c s (suc r) (next c s r p) (step c t)
    among_more t l (going e) = subst (λ (x : State). Among c s (suc r) (next c s r p) (step c x)) (sym e) (go (questioned c s r p).stopped refl)
      where
        go : (b : Bool) → (questioned c s r p).stopped ≡ b → Among c s (suc r) (next c s r p) (step c (sliding s r p))
        go true q = halted (halts q)
        go false q = going (row_slid q l ∙ ap (sliding s (suc r)) (sym (next_on c s r p q)))
    among_more t l (halted e) = halted (stays t e)

    -- the last row
    among_last : (t : State) → c.h ≤ suc r → Among c s r p t → dropped (step c t) ≡ pass_done c (before_rows s) (next c s r p)
    among_last t l (going e) = ap (λ (x : State). dropped (step c x)) e ∙ go (questioned c s r p).stopped refl
      where
        go : (b : Bool) → (questioned c s r p).stopped ≡ b → dropped (step c (sliding s r p)) ≡ pass_done c (before_rows s) (next c s r p)
        go true q = halted_done c s (next c s r p) (step c (sliding s r p)) (halts q)
        go false q = row_last q l ∙ ap (pass_done c (before_rows s)) (sym (next_on c s r p q))
    among_last t l (halted e) = halted_done c s (next c s r p) (step c t) (stays t e)

  among_rows : (r : ℕ) → r < c.h → Among c s r (rows_from c r s) (turns r (λ i. step c) (before_rows s))
  unfolding turns
  among_rows zero l = going (ap (sliding s 0) (sym (rows_none c s)))
  among_rows (suc r) l =
      subst (λ (p : Pass). Among c s (suc r) p (step c (turns r (λ i. step c) (before_rows s)))) (sym (rows_next c s r))
      (among_more r (rows_from c r s) (turns r (λ i. step c) (before_rows s)) l (among_rows r (omega arith)))

  all_rows : (n : ℕ) → c.h ≡ n → 0 < n → dropped (turns n (λ i. step c) (before_rows s)) ≡ pass_done c (before_rows s) (rows_from c n s)
  unfolding turns
  all_rows zero e l = let z : ⊥ = omega arith in absurd z
  all_rows (suc r) e l =
      among_last r (rows_from c r s) (turns r (λ i. step c) (before_rows s)) (omega arith) (among_rows r (omega arith))
      ∙ ap (pass_done c (before_rows s)) (sym (rows_next c s r))

-- h steps from a state about to begin a pass
pub pass_steps : (c : Course) (s : State) → 0 < c.h → s.iteration < c.iterations → s.opened ≡ true → s.row ≡ 0 → s.copy ≡ s.heights → s.number ≡ 0
    → dropped (turns c.h (λ i. step c) s) ≡ one_pass c s
unfolding one_pass
pass_steps c s l due opened row copy number =
    subst (λ (x : State). dropped (turns c.h (λ i. step c) x) ≡ one_pass c x)
    (λ i. pass_at (sym copy i) (sym row i) s.marks (sym number i) s)
    (all_rows c s (lt-leb c.iterations s.iteration due) opened c.h refl l)
