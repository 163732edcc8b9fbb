-- An opening asks at most one question and a row one, so a run asks few enough to count in 32 bits.
use Prim.Native.Nat.{ℕ, suc, ◌+◌, ◌*◌, ◌^◌, ◌≤◌, ◌<◌}
use mathlib.Core.Path.{◌≡◌, refl}
use mathlib.Core.Bool.{Bool, ◌&&◌, cond}
use mathlib.Core.List.{List}
use native.Mathlib.Nat.{mul-le-mul, mul-le-mul_right, le_trans, lt_of_le_of_lt, suc-le-suc_iff}
use native.Mathlib.Omega.{arith}
use lib.Dec.{eqb, lit<}
use lib.Ieee.{Float}
use Rattle.loops.proofs.TestLaws.{either}
use Rattle.loops.proofs.TurnLaws.{turns_hold}
use Rattle.grid.specs.Heights.{all_finite}
use Rattle.generators.specs.Marks.{report_of}
use Rattle.generators.specs.declared.Progress.{Progress}
use Rattle.generators.proofs.MarksLaws.{report_asked_most}
use Rattle.thermal_erosion.specs.SlidePass.{Pass}
use Rattle.thermal_erosion.proofs.PassLaws as Rows
use Rattle.run_machine.specs.Machine.{Course, State, start, open_step, steps}
use Rattle.run_machine.specs.Nested.{rows_from, pass_done, one_pass, one_opening, passes_after, one_iteration, iterated}

module _ (c : Course) (s : State) where
  -- the record after an opening
  abbrev open_report : Progress
  open_report = report_of s.marks (c.opening s.iteration) c.stop

  -- a choice between states with one record keeps it
  one_record : (m : Progress) (b : Bool) (x y : State) → x.marks ≡ m → y.marks ≡ m → (cond b x y).marks ≡ m
  one_record m = either (λ (x : State). x.marks ≡ m)

  open_marks : (open_step c s).marks ≡ open_report
  open_marks = one_record open_report open_report.stopped _ _ refl (one_record open_report (all_finite (c.incision s.iteration s.heights)) _ _ refl refl)

  done_marks : (p : Pass) → (pass_done c s p).marks ≡ p.marks
  done_marks p = one_record p.marks p.marks.stopped _ _ refl (one_record p.marks (all_finite p.out) _ _ refl refl)

-- r rows at most r
pub rows_asked : (c : Course) (s : State) (r : ℕ) → (rows_from c r s).marks.asked ≤ s.marks.asked + r
rows_asked c s r =
    Rows.rows_asked c.w c.h c.thresholds c.strength c.water s.heights (c.begins s.iteration s.pass) (c.begins s.iteration (suc s.pass))
    c.stop s.marks r

module _ (c : Course) (s : State) where
  pub pass_asked : (one_pass c s).marks.asked ≤ s.marks.asked + c.h
  unfolding one_pass
  pass_asked =
      either (λ (x : State). x.marks.asked ≤ s.marks.asked + c.h) (eqb s.number 0) (pass_done c s (rows_from c c.h s)) s (rw done_marks (rows_asked c s c.h)) (omega arith)

  pub opening_asked : (one_opening c s).marks.asked ≤ s.marks.asked + 1
  unfolding one_opening
  opening_asked =
      either (λ (x : State). x.marks.asked ≤ s.marks.asked + 1) (c.cutting && eqb s.number 0) (open_step c s) s (rw open_marks (report_asked_most s.marks _ c.stop)) (omega arith)

module _ (c : Course) (s : State) where
  pub passes_asked : (q : ℕ) → (passes_after c q s).marks.asked ≤ s.marks.asked + 1 + q * c.h
  passes_asked q =
      turns_hold (λ i. one_pass c) (λ i t. t.marks.asked ≤ s.marks.asked + 1 + i * c.h) (one_opening c s) q (omega (arith, opening_asked c s))
      (λ i t l h. omega (arith, pass_asked c t))

  pub iteration_asked : (one_iteration c s).marks.asked ≤ s.marks.asked + suc (c.passes * c.h)
  unfolding one_iteration
  iteration_asked = omega (arith, passes_asked c.passes)

module _ (c : Course) (hs : List Float) where
  -- so do n iterations by loops
  pub iterated_asked : (n : ℕ) → (iterated c n hs).marks.asked ≤ n * suc (c.passes * c.h)
  iterated_asked n =
      turns_hold (λ i. one_iteration c) (λ i t. t.marks.asked ≤ i * suc (c.passes * c.h)) (start c hs) n (omega arith)
      (λ i t l h. omega (arith, iteration_asked c t))

  pub underway_asked : (it q : ℕ) → (passes_after c q (iterated c it hs)).marks.asked ≤ it * suc (c.passes * c.h) + 1 + q * c.h
  underway_asked it q = omega (arith, passes_asked c (iterated c it hs) q, iterated_asked it)

  -- every record that a run meets has asked at most as many as the run has steps
  pub run_asked : (n : ℕ) → n ≤ c.iterations → (iterated c n hs).marks.asked ≤ steps c
  run_asked n l = le_trans (iterated_asked n) (mul-le-mul_right (suc (c.passes * c.h)) l)

  pub opened_asked : (it q : ℕ) → it < c.iterations → q ≤ c.passes → (passes_after c q (iterated c it hs)).marks.asked ≤ steps c
  opened_asked it q l k =
      omega (arith, underway_asked it q, mul-le-mul_right c.h k, mul-le-mul_right (suc (c.passes * c.h)) l)

-- the steps of document 01's runs
product_within : (i p h a b d : ℕ) → i ≤ a → p ≤ b → h ≤ d → i * suc (p * h) ≤ a * suc (b * d)
product_within i p h a b d l m n = mul-le-mul l (suc-le-suc_iff.1 (mul-le-mul m n))

pub steps_fluvial : (c : Course) → c.iterations ≤ 4096 → c.passes ≤ 8 → c.h ≤ 4096 → steps c < 2 ^ 28
steps_fluvial c l m n = lt_of_le_of_lt (product_within c.iterations c.passes c.h 4096 8 4096 l m n) (lit< tt)

pub steps_thermal : (c : Course) → c.iterations ≤ 32768 → c.passes ≤ 1 → c.h ≤ 4096 → steps c < 2 ^ 28
steps_thermal c l m n = lt_of_le_of_lt (product_within c.iterations c.passes c.h 32768 1 4096 l m n) (lit< tt)
