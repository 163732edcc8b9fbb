-- The run step by step ends as the run by its loops.
use Prim.Native.Nat.{ℕ, suc, ◌+◌, ◌*◌, ◌≤◌, ◌<◌}
use mathlib.Core.Path.{◌≡◌, refl, sym, ap, ap₂, ◌∙◌, subst}
use mathlib.Core.Bool.{Bool, true, false, cond}
use mathlib.Core.List.{List}
use native.Mathlib.Omega.{arith}
use borrow.Author.Tests.{lt-leb, le-leb, eqb-true, eqb-false, eq-eqb}
use lib.Dec.{eqb, leb}
use lib.Ieee.{Float}
use Rattle.loops.specs.Loops.{turns}
use Rattle.loops.proofs.TestLaws.{either}
use Rattle.loops.proofs.TurnLaws.{turns_hold, turns_kept, turns_through, turns_split, turns_product}
use Rattle.grid.specs.Heights.{all_finite}
use Rattle.generators.specs.Marks.{report_of}
use Rattle.grid.specs.Sides.{bad_sides}
use Rattle.resample.specs.WorkSize.{work_size}
use Rattle.resample.proofs.WorkLaws.{work_within}
use Rattle.resample.specs.Blocks.{downsampled}
use Rattle.upsample.specs.Samples.{FarEdge, as_source}
use Rattle.run_machine.specs.Machine.{Course, State, pass_at, start, ended_by, cut, open_step, step, after, steps, finished}
use Rattle.run_machine.specs.Run.{Choice, Ran, run_from, run_on, thermal_course, run_by, thermal_run}
use Rattle.run_machine.specs.Demand3.{course_of}
use Rattle.run_settings.specs.declared.FluvialSettings.{FluvialSettings}
use Rattle.run_settings.specs.declared.ThermalSettings.{ThermalSettings}
use Rattle.run_machine.specs.Nested.{one_pass, one_opening, one_iteration, iterated, nested, Due, Underway, dropped, FinishedNested}
use Rattle.run_machine.proofs.PassLaws.{step_ended, pass_ended, pass_steps}
use Rattle.run_machine.proofs.IterationLaws.{opening_ended, iteration_ended, opening_is, opening_none, After, Place, underway_opening, underway_pass, due_pass, due_start, due_iteration}

-- a state that goes on, or whose row is 0, is kept whole
dropped_by : (s : State) → cond (eqb s.number 0) s.row 0 ≡ s.row → dropped s ≡ s
dropped_by s e i = pass_at s.copy (e i) s.marks s.number s

pub dropped_on : (s : State) → s.number ≡ 0 → dropped s ≡ s
dropped_on s e = dropped_by s (rw (eq-eqb s.number 0 e))

pub dropped_row : (s : State) → s.row ≡ 0 → dropped s ≡ s
dropped_row s e = dropped_by s (rw e (either (λ (x : ℕ). x ≡ 0) (eqb s.number 0) 0 0 refl refl))

-- Steps f and a part g of the loops that both keep an ended state. From a state of P they come to the same, seen without rows, and g leads to Q.
record Block (f g : State → State) (P Q : State → Type 0) : Type 0 where
  f_ended : (s : State) → eqb s.number 0 ≡ false → f s ≡ s
  g_ended : (s : State) → eqb s.number 0 ≡ false → g s ≡ s
  leads : (s : State) → P s → dropped (f s) ≡ g s
  goes : (s : State) → P s → (g s).number ≡ 0 → Q (g s)

-- then they come to the same from every state that has ended or is of P, and f too leads to Q
module _ {f g : State → State} {P Q : State → Type 0} (b : Block f g P Q) (s : State) (p : s.number ≡ 0 → P s) where
  block_same : dropped (f s) ≡ g (dropped s)
  block_same = go (eqb s.number 0) refl
    where
      go : (x : Bool) → eqb s.number 0 ≡ x → dropped (f s) ≡ g (dropped s)
      go true e = let on : s.number ≡ 0 = eqb-true s.number 0 e in b.leads s (p on) ∙ ap g (sym (dropped_on s on))
      go false e = ap dropped (b.f_ended s e) ∙ sym (b.g_ended (dropped s) e)

  block_goes : (f s).number ≡ 0 → Q (f s)
  block_goes on = go (eqb s.number 0) refl
    where
      go : (x : Bool) → eqb s.number 0 ≡ x → Q (f s)
      go true e =
          let l : dropped (f s) ≡ g s = b.leads s (p (eqb-true s.number 0 e)) in
          subst Q (sym l ∙ dropped_on (f s) on) (b.goes s (p (eqb-true s.number 0 e)) (ap (λ (t : State). t.number) (sym l) ∙ on))
      go false e = absurd (eqb-false s.number 0 e (ap (λ (t : State). t.number) (sym (b.f_ended s e)) ∙ on))

-- n steps keep an ended state
steps_ended : (c : Course) (n : ℕ) (s : State) → eqb s.number 0 ≡ false → turns n (λ i. step c) s ≡ s
steps_ended c n s e = turns_kept (λ i. step c) s n (λ i. step_ended c s e)

module _ (c : Course) where
  -- the steps that open an iteration, and those of a whole iteration
  abbrev pub opening_steps : ℕ
  opening_steps = cond c.cutting 1 0

  abbrev pub iteration_steps : ℕ
  iteration_steps = c.passes * c.h + opening_steps

  module _ (it : ℕ) (left : it < c.iterations) where
    open_step_lem : (s : State) → Due c it s → c.cutting ≡ true → step c s ≡ open_step c s
    unfolding step
    open_step_lem s d e =
        let due : leb c.iterations s.iteration ≡ false = lt-leb c.iterations s.iteration (omega (arith, d.iteration)) in
        rw (eq-eqb s.number 0 d.number, due, d.opened, e)

    open_row : (s : State) → s.row ≡ 0 → (open_step c s).row ≡ 0
    open_row s e = go (report_of s.marks (c.opening s.iteration) c.stop).stopped (all_finite (c.incision s.iteration s.heights))
      where
        go : (a b : Bool) → (cond a (ended_by c 21 (report_of s.marks (c.opening s.iteration) c.stop) s)
            (cond b (cut c (c.incision s.iteration s.heights) (report_of s.marks (c.opening s.iteration) c.stop) s)
            (ended_by c 22 (report_of s.marks (c.opening s.iteration) c.stop) s))).row ≡ 0
        go true b = e
        go false true = refl
        go false false = e

    opening_steps_lem : (s : State) → Due c it s → dropped (turns opening_steps (λ i. step c) s) ≡ one_opening c s
    unfolding turns
    opening_steps_lem s d = go c.cutting refl
      where
        go : (b : Bool) → c.cutting ≡ b → dropped (turns opening_steps (λ i. step c) s) ≡ one_opening c s
        go true e =
            ap (λ (b : Bool). dropped (turns (cond b 1 0) (λ i. step c) s)) e
            ∙ ap dropped (open_step_lem s d e) ∙ dropped_row (open_step c s) (open_row s d.row) ∙ sym (opening_is c s e d.number)
        go false e = ap (λ (b : Bool). dropped (turns (cond b 1 0) (λ i. step c) s)) e ∙ dropped_row s d.row ∙ sym (opening_none c s e)

    opening_block : Block (turns opening_steps (λ i. step c)) (one_opening c) (Due c it) (Underway c it 0)
    opening_block =
        record { f_ended = steps_ended c opening_steps; g_ended = opening_ended c; leads = opening_steps_lem; goes = underway_opening c it }

    pass_block : 0 < c.h → (q : ℕ) → Block (turns c.h (λ i. step c)) (one_pass c) (Underway c it q) (After c it (suc q))
    pass_block high q =
        record {
          f_ended = steps_ended c c.h;
          g_ended = pass_ended c;
          leads = λ s u. pass_steps c s high (omega (arith, u.iteration)) u.opened u.row u.copy u.number;
          goes = λ s u on. (underway_pass c it s q u on, due_pass c it s q u on);
        }

    module _ (high : 0 < c.h) (some : 0 < c.passes) where
      iteration_leads : (s : State) → Due c it s → dropped (turns iteration_steps (λ i. step c) s) ≡ one_iteration c s
      unfolding one_iteration
      iteration_leads s d =
          let t : State = turns opening_steps (λ i. step c) s in
          ap dropped (turns_split (step c) (c.passes * c.h) opening_steps s ∙ turns_product (step c) c.passes c.h t)
          ∙ turns_through (λ i. turns c.h (λ j. step c)) (λ i. one_pass c) dropped (Place c it) t c.passes
          (λ on. (λ l. block_goes opening_block s (λ _. d) on, λ e. let z : ⊥ = omega arith in absurd z))
          (λ q t l p on. block_goes (pass_block high q) t (λ o. (p o).0 l) on)
          (λ q t l p. block_same (pass_block high q) t (λ o. (p o).0 l))
          ∙ ap (turns c.passes (λ i. one_pass c)) (opening_steps_lem s d)

      iteration_block : Block (turns iteration_steps (λ i. step c)) (one_iteration c) (Due c it) (Due c (suc it))
      iteration_block =
          record {
            f_ended = steps_ended c iteration_steps;
            g_ended = iteration_ended c;
            leads = iteration_leads;
            goes = λ s d. due_iteration c some it s (λ _. d);
          }

  module _ (high : 0 < c.h) (some : 0 < c.passes) (hs : List Float) where
    -- the steps of n iterations lead to where iteration n is due, with the state that n iterations by loops have
    pub due_after : (n : ℕ) → n ≤ c.iterations → (after c (n * iteration_steps) hs).number ≡ 0 → Due c n (after c (n * iteration_steps) hs)
    unfolding after
    due_after n l =
        subst (λ (t : State). t.number ≡ 0 → Due c n t) (sym (turns_product (step c) n iteration_steps (start c hs)))
        (turns_hold (λ i. turns iteration_steps (λ j. step c)) (λ i t. t.number ≡ 0 → Due c i t) (start c hs) n (λ on. due_start c hs)
        (λ i t k d. block_goes (iteration_block i (omega arith) high some) t d))

    pub after_iterated : (n : ℕ) → n ≤ c.iterations → dropped (after c (n * iteration_steps) hs) ≡ iterated c n hs
    unfolding after
    after_iterated n l =
        ap dropped (turns_product (step c) n iteration_steps (start c hs))
        ∙ turns_through (λ i. turns iteration_steps (λ j. step c)) (λ i. one_iteration c) dropped (λ i t. t.number ≡ 0 → Due c i t) (start c hs) n
        (λ on. due_start c hs) (λ i t k d. block_goes (iteration_block i (omega arith) high some) t d)
        (λ i t k d. block_same (iteration_block i (omega arith) high some) t d)

    -- where nothing opens an iteration, the steps that are left do nothing
    abbrev rest : ℕ
    rest = cond c.cutting 0 c.iterations

    all_steps : steps c ≡ rest + c.iterations * iteration_steps
    all_steps = go c.cutting
      where
        go : (b : Bool) → c.iterations * suc (c.passes * c.h) ≡ cond b 0 c.iterations + c.iterations * (c.passes * c.h + cond b 1 0)
        go true = omega arith
        go false = omega arith

    step_past : (s : State) → (s.number ≡ 0 → Due c c.iterations s) → step c s ≡ s
    unfolding step
    step_past s d = go (eqb s.number 0) refl
      where
        go : (b : Bool) → eqb s.number 0 ≡ b → step c s ≡ s
        go false e = step_ended c s e
        go true e =
            let due : Due c c.iterations s = d (eqb-true s.number 0 e) in
            rw (e, le-leb c.iterations s.iteration (omega (arith, due.iteration)))

    ends_nested : dropped (finished c hs) ≡ nested c hs
    ends_nested = ap dropped whole ∙ after_iterated c.iterations (omega arith)
      where
        whole : finished c hs ≡ after c (c.iterations * iteration_steps) hs
        whole = unfold after in
            ap (λ (n : ℕ). turns n (λ i. step c) (start c hs)) all_steps
            ∙ turns_split (step c) rest (c.iterations * iteration_steps) (start c hs)
            ∙ turns_kept (λ i. step c) _ rest (λ i. step_past _ (due_after c.iterations (omega arith)))

pub finished_nested : FinishedNested
finished_nested = ends_nested

-- so both give the same answer
pub run_nested : (kind : FarEdge) (w h : ℕ) (c : Course) (map : List Float) → 0 < c.h → 0 < c.passes
    → run_on kind w h c map ≡ run_from kind w h c map (nested c (downsampled map w h c.w c.h)) (nested c map)
run_nested kind w h c map high some =
    ap₂ (run_from kind w h c map) (finished_nested c high some (downsampled map w h c.w c.h)) (finished_nested c high some map)

-- whole runs on sides of 1 to 4,096, by the states that their loops end in
module _ (w h stop : ℕ) (map : List Float) (good : bad_sides w h ≡ false) where
  abbrev pub by_loops : Course → Ran
  by_loops c = run_from as_source w h c map (nested c (downsampled map w h c.w c.h)) (nested c map)

  pub fluvial_nested : (s : FluvialSettings) (choose : Choice) → run_by w h s stop choose map ≡ by_loops (course_of w h s stop map choose)
  unfolding run_by
  fluvial_nested s choose =
      run_nested as_source w h (course_of w h s stop map choose) map (work_within w h s.work_res good).dh_low (omega arith)

  pub thermal_nested : (s : ThermalSettings)
      → thermal_run w h s stop map ≡ by_loops (thermal_course (work_size w h s.work_res).w (work_size w h s.work_res).h s stop)
  unfolding thermal_run
  thermal_nested s =
      run_nested as_source w h (thermal_course (work_size w h s.work_res).w (work_size w h s.work_res).h s stop) map
      (work_within w h s.work_res good).dh_low (omega arith)
