-- The run as its loops go: a state that has not ended stands at a place between passes, and the place fixes its counts.
use Prim.Native.Nat.{ℕ, suc, ◌+◌, ◌-◌, ◌≤◌, ◌<◌}
use mathlib.Core.Path.{◌≡◌, refl, sym, ap, ◌∙◌, subst}
use mathlib.Core.Bool.{Bool, true, false, ◌&&◌, cond}
use mathlib.Core.List.{List}
use native.Mathlib.Omega.{arith}
use borrow.Author.Tests.{lt-leb, le-leb, eqb-true, eq-eqb}
use lib.Dec.{eqb, leb}
use lib.Ieee.{Float}
use Rattle.loops.specs.Loops.{turns}
use Rattle.loops.proofs.TurnLaws.{turns_hold, turns_kept, turns_stay}
use Rattle.grid.specs.Heights.{all_finite}
use Rattle.generators.specs.Marks.{report_of}
use Rattle.generators.specs.declared.Progress.{Progress}
use Rattle.thermal_erosion.specs.SlidePass.{Pass, rows_of}
use Rattle.run_machine.specs.Machine.{Course, State, start, ended_by, cut, open_step, closed}
use Rattle.run_machine.specs.Nested.{rows_from, pass_done, one_pass, one_opening, passes_after, one_iteration, iterated, nested, Due, Underway}
use Rattle.run_machine.proofs.PassLaws.{pass_ended}

module _ (c : Course) (s : State) where
  -- a run that has ended stays
  module _ (ended : eqb s.number 0 ≡ false) where
    pub opening_ended : one_opening c s ≡ s
    unfolding one_opening
    opening_ended = go c.cutting
      where
        go : (b : Bool) → cond (b && eqb s.number 0) (open_step c s) s ≡ s
        go true = rw ended
        go false = refl

    pub passes_ended : (n : ℕ) → passes_after c n s ≡ s
    passes_ended n = ap (turns n (λ i. one_pass c)) opening_ended ∙ turns_kept (λ i. one_pass c) s n (λ i. pass_ended c s ended)

    pub iteration_ended : one_iteration c s ≡ s
    unfolding one_iteration
    iteration_ended = passes_ended c.passes

-- what a question and new heights lead to
abbrev made_by : Course → State → Progress → List Float → State → State
made_by c s m new t = cond m.stopped (ended_by c 21 m s) (cond (all_finite new) t (ended_by c 22 m s))

-- a run that goes on to u: no question stopped it, every height is finite, and u is t
pub record Made (m : Progress) (new : List Float) (t u : State) : Type 0 where
  pub unstopped : m.stopped ≡ false
  pub finite : all_finite new ≡ true
  pub same : u ≡ t

made_on : (c : Course) (s : State) (m : Progress) (new : List Float) (t : State) → (made_by c s m new t).number ≡ 0 → Made m new t (made_by c s m new t)
made_on c s m new t after = go m.stopped refl (all_finite new) refl
  where
    go : (a : Bool) → m.stopped ≡ a → (b : Bool) → all_finite new ≡ b → Made m new t (made_by c s m new t)
    go true e b f = let z : ◌≡◌ {A = ℕ} 21 0 = rw e at after in let n : ⊥ = omega arith in absurd n
    go false e true f = record { unstopped = e; finite = f; same = rw (e, f) }
    go false e false f = let z : ◌≡◌ {A = ℕ} 22 0 = rw (e, f) at after in let n : ⊥ = omega arith in absurd n

-- by the rows p of a pass, which is closed, and by the opening of an iteration
abbrev pub Passed : Course → State → Pass → State → Type 0
Passed c s p = Made p.marks p.out (closed c p.out p.marks s)

abbrev pub Cut : Course → State → State → Type 0
Cut c s =
    let m = report_of s.marks (c.opening s.iteration) c.stop in
    let new = c.incision s.iteration s.heights in
    Made m new (cut c new m s)

-- a run that goes on after a step had not ended before it
before : (s t : State) → (eqb s.number 0 ≡ false → t ≡ s) → t.number ≡ 0 → s.number ≡ 0
before s t stays on = go (eqb s.number 0) refl
  where
    go : (b : Bool) → eqb s.number 0 ≡ b → s.number ≡ 0
    go true e = eqb-true s.number 0 e
    go false e = ap (λ (x : State). x.number) (sym (stays e)) ∙ on

module _ (c : Course) (s : State) where
  pub pass_before : (one_pass c s).number ≡ 0 → s.number ≡ 0
  pass_before = before s (one_pass c s) (pass_ended c s)

  pub opening_before : (one_opening c s).number ≡ 0 → s.number ≡ 0
  opening_before = before s (one_opening c s) (opening_ended c s)

  pub pass_is : s.number ≡ 0 → one_pass c s ≡ pass_done c s (rows_from c c.h s)
  unfolding one_pass
  pass_is on = rw (eq-eqb s.number 0 on)

  -- a pass after which the run goes on
  pub pass_on_lem : (one_pass c s).number ≡ 0 → Passed c s (rows_from c c.h s) (one_pass c s)
  pass_on_lem after =
      let e : one_pass c s ≡ pass_done c s (rows_from c c.h s) = pass_is (pass_before after) in
      subst (λ (t : State). Passed c s (rows_from c c.h s) t) (sym e) (made_on c s _ _ _ (ap (λ (t : State). t.number) (sym e) ∙ after))

  pub opening_is : c.cutting ≡ true → s.number ≡ 0 → one_opening c s ≡ open_step c s
  unfolding one_opening
  opening_is cutting on = rw (cutting, eq-eqb s.number 0 on)

  -- where nothing opens an iteration
  pub opening_none : c.cutting ≡ false → one_opening c s ≡ s
  unfolding one_opening
  opening_none cutting = rw cutting

  -- an opening after which the run goes on
  pub opening_on : c.cutting ≡ true → (one_opening c s).number ≡ 0 → Cut c s (one_opening c s)
  opening_on cutting after =
      let e : one_opening c s ≡ open_step c s = opening_is cutting (opening_before after) in
      subst (λ (t : State). Cut c s t) (sym e) (made_on c s _ _ _ (ap (λ (t : State). t.number) (sym e) ∙ after))

-- ---- places
-- a run begins due to begin iteration 0
pub due_start : (c : Course) (hs : List Float) → Due c 0 (start c hs)
due_start c hs =
    record { number = refl; iteration = refl; pass = refl; opened = refl; row = refl; copy = refl; incisions = go c.cutting; passes = omega arith; unstopped = refl }
  where
    go : (b : Bool) → ◌≡◌ {A = ℕ} 0 (cond b 0 0)
    go true = refl
    go false = refl

module _ (c : Course) (it : ℕ) (s : State) where
  -- the rows of a pass by its place
  pub rows_at : (q : ℕ) → Underway c it q s → (n : ℕ)
      → rows_from c n s ≡ rows_of c.w c.h c.thresholds c.strength c.water s.heights (c.begins it q) (c.begins it (suc q)) c.stop n s.marks
  rows_at q u n = rw (u.iteration, u.pass)

  -- the opening of an iteration leads to its pass 0
  pub underway_opening : Due c it s → (one_opening c s).number ≡ 0 → Underway c it 0 (one_opening c s)
  underway_opening d after = go c.cutting refl
    where
      go : (b : Bool) → c.cutting ≡ b → Underway c it 0 (one_opening c s)
      go true e =
          subst (λ (t : State). Underway c it 0 t) (sym (opening_on c s e after).same)
          (record {
            number = refl;
            iteration = d.iteration;
            pass = refl;
            opened = refl;
            row = refl;
            copy = refl;
            incisions = rw e (ap suc (d.incisions ∙ rw e));
            passes = omega (arith, d.passes);
            unstopped = (opening_on c s e after).unstopped;
          })
      go false e =
          subst (λ (t : State). Underway c it 0 t) (sym (opening_none c s e))
          (record {
            number = d.number;
            iteration = d.iteration;
            pass = d.pass;
            opened = d.opened ∙ rw e;
            row = d.row;
            copy = d.copy;
            incisions = d.incisions ∙ rw e;
            passes = omega (arith, d.passes);
            unstopped = d.unstopped;
          })

  module _ (q : ℕ) (u : Underway c it q s) (after : (one_pass c s).number ≡ 0) where
    last_is : (b : Bool) → leb c.passes (suc q) ≡ b → leb c.passes (suc s.pass) ≡ b
    last_is b e = rw u.pass e

    -- a pass that is not the last of its iteration leads to the next
    pub underway_pass : suc q < c.passes → Underway c it (suc q) (one_pass c s)
    underway_pass l =
        let last : leb c.passes (suc s.pass) ≡ false = last_is false (lt-leb c.passes (suc q) l) in
        subst (λ (t : State). Underway c it (suc q) t) (sym (pass_on_lem c s after).same)
        (record {
          number = refl;
          iteration = rw last u.iteration;
          pass = rw last (ap suc u.pass);
          opened = rw last u.opened;
          row = refl;
          copy = refl;
          incisions = u.incisions;
          passes = omega (arith, u.passes);
          unstopped = (pass_on_lem c s after).unstopped;
        })

    -- the last one to the next iteration
    pub due_pass : suc q ≡ c.passes → Due c (suc it) (one_pass c s)
    due_pass l =
        let last : leb c.passes (suc s.pass) ≡ true = last_is true (le-leb c.passes (suc q) (omega arith)) in
        subst (λ (t : State). Due c (suc it) t) (sym (pass_on_lem c s after).same)
        (record {
          number = refl;
          iteration = rw last (ap suc u.iteration);
          pass = rw last;
          opened = rw last;
          row = refl;
          copy = refl;
          incisions = u.incisions;
          passes = omega (arith, u.passes);
          unstopped = (pass_on_lem c s after).unstopped;
        })

-- the place after n passes of iteration `it`: pass n of it, or the next iteration after all of them
abbrev pub After : Course → ℕ → ℕ → State → Type 0
After c it n s = (n < c.passes → Underway c it n s) × (n ≡ c.passes → Due c (suc it) s)

abbrev pub Place : Course → ℕ → ℕ → State → Type 0
Place c it n s = s.number ≡ 0 → After c it n s

-- the opening of an iteration comes to its pass 0, and each pass to the next place
pub place_opening : (c : Course) (it : ℕ) (s : State) → 0 < c.passes → (s.number ≡ 0 → Due c it s) → Place c it 0 (one_opening c s)
place_opening c it s some d on = (λ m. underway_opening c it s (d (opening_before c s on)) on, λ e. absurd (omega arith))

pub place_pass : (c : Course) (it i : ℕ) (t : State) → i < c.passes → Place c it i t → Place c it (suc i) (one_pass c t)
place_pass c it i t l p on =
    let u : Underway c it i t = (p (pass_before c t on)).0 l in
    (λ m. underway_pass c it t i u on m, λ e. due_pass c it t i u on e)

module _ (c : Course) (some : 0 < c.passes) where
  module _ (it : ℕ) (s : State) (d : s.number ≡ 0 → Due c it s) where
    place_passes : (n : ℕ) → n ≤ c.passes → Place c it n (passes_after c n s)
    place_passes n l =
        turns_hold (λ i. one_pass c) (Place c it) (one_opening c s) n (place_opening c it s some d) (λ i t k. place_pass c it i t (omega arith))

    -- after some passes of an iteration the run is at the next one
    pub underway_passes : (q : ℕ) → q < c.passes → (passes_after c q s).number ≡ 0 → Underway c it q (passes_after c q s)
    underway_passes q l on = (place_passes q (omega arith) on).0 l

    -- after a whole iteration the next is due
    pub due_iteration : (one_iteration c s).number ≡ 0 → Due c (suc it) (one_iteration c s)
    unfolding one_iteration
    due_iteration on = (place_passes c.passes (omega arith) on).1 refl

  module _ (hs : List Float) where
    -- after n iterations, iteration n is due
    pub due_iterated : (n : ℕ) → (iterated c n hs).number ≡ 0 → Due c n (iterated c n hs)
    due_iterated n =
        turns_hold (λ i. one_iteration c) (λ i t. t.number ≡ 0 → Due c i t) (start c hs) n (λ _. due_start c hs) (λ i t l d on. due_iteration i t d on)

    pub underway_iterated : (it q : ℕ) → q < c.passes → (passes_after c q (iterated c it hs)).number ≡ 0 → Underway c it q (passes_after c q (iterated c it hs))
    underway_iterated it q = underway_passes it (iterated c it hs) (due_iterated it) q

-- a run that ends early
pub nested_stays : (c : Course) (hs : List Float) (n : ℕ) → n ≤ c.iterations → eqb (iterated c n hs).number 0 ≡ false → nested c hs ≡ iterated c n hs
nested_stays c hs n l ended =
    let e : c.iterations ≡ n + (c.iterations - n) = omega arith in
    ap (λ (n : ℕ). iterated c n hs) e ∙ turns_stay (λ i. one_iteration c) (start c hs) n (c.iterations - n) (λ i. iteration_ended c (iterated c n hs) ended)
