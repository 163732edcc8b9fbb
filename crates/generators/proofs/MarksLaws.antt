-- Laws of a report: what it does in each of its three cases, and what the layers above need of the record after it.
use Rattle.std.specs.declared.result.Result.{Result}
use Rattle.std.specs.declared.result.Result.TheVariants.{Err}
use Prim.Native.Nat.{ℕ, ◌+◌, ◌-◌, ◌^◌, ◌≤◌, ◌<◌}
use mathlib.Core.Path.{◌≡◌, refl, sym, ap, ◌∙◌}
use mathlib.Core.Bool.{Bool, true, false, not, cond}
use native.Mathlib.Nat.{le_refl}
use native.Mathlib.Omega.{arith}
use borrow.Author.Tests.{ltb-false}
use lib.Dec.{eqb}
use lib.Ieee.{Float, binary32, of_bits, neg}
use Rattle.loops.proofs.TestLaws.{fourth}
use Rattle.answers.specs.Outcome.{gives, outside_of}
use Rattle.answers.specs.declared.Refusal.{Refusal}
use Rattle.generators.specs.declared.Progress.{Progress}
use Rattle.generators.specs.declared.Go.{Go}
use Rattle.generators.specs.Marks.{asks, bad_report, report_of, go_of, ReportMade}

module _ (m : Progress) (p : Float) (s : ℕ) where
  -- the record after a question
  abbrev pub questioned : Progress
  questioned = record { last = p; asked = m.asked + 1; stopped = eqb (m.asked + 1) s }

  -- a stopped record asks none and stays as it is
  pub report_stopped : m.stopped ≡ true → report_of m p s ≡ m
  unfolding report_of
  report_stopped h = rw h

  pub report_asks : m.stopped ≡ false → asks m p ≡ true → report_of m p s ≡ questioned
  unfolding report_of
  report_asks h a = rw (h, a)

  pub report_quiet : m.stopped ≡ false → asks m p ≡ false → report_of m p s ≡ m
  unfolding report_of
  report_quiet h a = rw (h, a)

  -- what holds of the record as it was and of the record after a question holds after a report
  pub report_cases : (P : Progress → Type 0) → P m → P questioned → P (report_of m p s)
  unfolding report_of
  report_cases P kept new = go m.stopped (asks m p)
    where
      go : (b a : Bool) → P (cond b m (cond a questioned m))
      go true a = kept
      go false true = new
      go false false = kept

  pub report_asked_most : (report_of m p s).asked ≤ m.asked + 1
  report_asked_most = report_cases (λ r. r.asked ≤ m.asked + 1) (omega arith) (le_refl _)

  -- a record that goes on had not stopped
  pub report_on : (report_of m p s).stopped ≡ false → m.stopped ≡ false
  report_on h = go m.stopped refl
    where
      go : (b : Bool) → m.stopped ≡ b → m.stopped ≡ false
      go true e = sym (ap (λ (r : Progress). r.stopped) (report_stopped e)) ∙ h
      go false e = e

-- a report that is not refused has asked at most 2^31 questions, so one more can be counted
pub asked_fits : (m : Progress) (p : Float) → bad_report m p ≡ false → m.asked < 2 ^ 32 - 1
asked_fits m p h =
    let one : Float = of_bits binary32 0x3f80_0000 in
    let l : m.asked ≤ 2 ^ 31 = ltb-false _ _ (fourth false (outside_of p (of_bits binary32 0) one) (outside_of m.last (neg one) one) _ h) in
    omega arith

module _ (m : Progress) (p : Float) (s : ℕ) where
  pub report_refused : bad_report m p ≡ true → ReportMade m p s (record { go = Err Refusal.Setting; progress = m })
  report_refused h = record { answer = rw h; handed = rw h }

  pub report_made : (g : Result Go Refusal) (r : Progress)
      → bad_report m p ≡ false → r ≡ report_of m p s → go_of g ≡ gives (not r.stopped) → ReportMade m p s (record { go = g; progress = r })
  report_made g r h e t = record { answer = rw h (t ∙ ap (λ (q : Progress). gives (not q.stopped)) e); handed = rw h e }
