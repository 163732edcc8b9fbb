-- Two courses that differ in their incisions alone, and only where no iteration routes, go through the same states.
use Prim.Native.Nat.{ℕ, zero, suc, ◌<◌}
use mathlib.Core.Path.{◌≡◌, refl, sym, ap, ap₂, ◌∙◌}
use mathlib.Core.Bool.{Bool, true, false, not, ◌||◌, cond}
use mathlib.Core.List.{List}
use lib.Dec.{eqb, leb}
use lib.Ieee.{Float}
use borrow.Author.Tests.{eqb-true, leb-false}
use Rattle.loops.specs.Loops.{turns}
use Rattle.grid.specs.Heights.{all_finite}
use Rattle.generators.specs.Marks.{report_of}
use Rattle.run_machine.specs.Machine.{Course, State, start, ended_by, cut, open_step, row_step, step, after}
use Rattle.run_machine.specs.Demand3.{Routes}

-- a course with another incision
abbrev pub cut_by : Course → (ℕ → List Float → List Float) → Course
cut_by c f =
    record {
      w = c.w;
      h = c.h;
      iterations = c.iterations;
      passes = c.passes;
      cutting = c.cutting;
      incision = f;
      opening = c.opening;
      begins = c.begins;
      thresholds = c.thresholds;
      strength = c.strength;
      water = c.water;
      stop = c.stop;
    }

module _ (hs : List Float) where
  pub after_none : (c : Course) → after c 0 hs ≡ start c hs
  unfolding after turns
  after_none c = refl

  pub after_more : (c : Course) (n : ℕ) → after c (suc n) hs ≡ step c (after c n hs)
  unfolding after turns
  after_more c n = refl

module _ (c : Course) (f : ℕ → List Float → List Float) (hs : List Float) where
  -- where c opens an iteration, both incisions give the same heights
  open_same : (s : State) → ((report_of s.marks (c.opening s.iteration) c.stop).stopped ≡ false → f s.iteration s.heights ≡ c.incision s.iteration s.heights) → open_step (cut_by c f) s ≡ open_step c s
  open_same s e = go (report_of s.marks (c.opening s.iteration) c.stop).stopped refl
    where
      both : List Float → State
      both new = cond (all_finite new) (cut c new (report_of s.marks (c.opening s.iteration) c.stop) s) (ended_by c 22 (report_of s.marks (c.opening s.iteration) c.stop) s)

      go : (b : Bool) → (report_of s.marks (c.opening s.iteration) c.stop).stopped ≡ b → open_step (cut_by c f) s ≡ open_step c s
      go true t =
          ap (λ (b : Bool). cond b (ended_by c 21 (report_of s.marks (c.opening s.iteration) c.stop) s) (both (f s.iteration s.heights))) t
          ∙ sym (ap (λ (b : Bool). cond b (ended_by c 21 (report_of s.marks (c.opening s.iteration) c.stop) s) (both (c.incision s.iteration s.heights))) t)
      go false t = ap (λ (new : List Float). cond (report_of s.marks (c.opening s.iteration) c.stop).stopped (ended_by c 21 (report_of s.marks (c.opening s.iteration) c.stop) s) (both new)) (e t)

  -- one step from any state; only an iteration that opens asks for the incision
  step_same : (s : State) → (s.number ≡ 0 → s.iteration < c.iterations → s.opened ≡ false → (report_of s.marks (c.opening s.iteration) c.stop).stopped ≡ false
      → f s.iteration s.heights ≡ c.incision s.iteration s.heights) → step (cut_by c f) s ≡ step c s
  unfolding step
  step_same s e = go (eqb s.number 0) refl (leb c.iterations s.iteration) refl s.opened refl
    where
      inner : (x : State) → Bool → Bool → Bool → State
      inner x a b o = cond (not a || b) s (cond o (row_step c s) x)

      to : (x : State) (a b o : Bool) → eqb s.number 0 ≡ a → leb c.iterations s.iteration ≡ b → s.opened ≡ o → inner x (eqb s.number 0) (leb c.iterations s.iteration) s.opened ≡ inner x a b o
      to x a b o p q r = ap (λ (t : Bool). inner x t (leb c.iterations s.iteration) s.opened) p ∙ ap₂ (inner x a) q r

      go : (a : Bool) → eqb s.number 0 ≡ a → (b : Bool) → leb c.iterations s.iteration ≡ b → (o : Bool) → s.opened ≡ o → step (cut_by c f) s ≡ step c s
      go true p false q false r =
          to (open_step (cut_by c f) s) true false false p q r
          ∙ open_same s (e (eqb-true s.number 0 p) (leb-false c.iterations s.iteration q) r)
          ∙ sym (to (open_step c s) true false false p q r)
      go false p b q o r = to (open_step (cut_by c f) s) false b o p q r ∙ sym (to (open_step c s) false b o p q r)
      go true p true q o r = to (open_step (cut_by c f) s) true true o p q r ∙ sym (to (open_step c s) true true o p q r)
      go true p false q true r = to (open_step (cut_by c f) s) true false true p q r ∙ sym (to (open_step c s) true false true p q r)

  pub after_same : ((it : ℕ) (routed : List Float) → Routes c hs it routed → f it routed ≡ c.incision it routed) → (n : ℕ) → after (cut_by c f) n hs ≡ after c n hs
  after_same same zero = after_none hs (cut_by c f) ∙ sym (after_none hs c)
  after_same same (suc n) =
      after_more hs (cut_by c f) n
      ∙ ap (step (cut_by c f)) (after_same same n)
      ∙ step_same (after c n hs)
      (λ goes left unopened unstopped. same (after c n hs).iteration (after c n hs).heights (record { done = n; goes_on = goes; due = left; entered = refl; unopened = unopened; unstopped = unstopped; heights = refl }))
      ∙ sym (after_more hs c n)
