-- The ends of a pass, each with its answer, its record and the slice after it.
use Prim.Native.Nat.{ℕ, ◌*◌, ◌^◌, ◌≤◌}
use mathlib.Core.Path.{◌≡◌, refl, sym, ap, ◌∙◌, subst}
use mathlib.Core.Bool.{Bool, true, false, not, ◌||◌}
use mathlib.Core.List.{List}
use native.Mathlib.Omega.{arith}
use borrow.Author.Tests.{eqb-true, ltb-false, not-false}
use lib.Dec.{eqb}
use lib.ListN.{length}
use lib.Ieee.{Float, binary32, of_bits, neg}
use lib.Ieee.Scale.{finite}
use Rattle.std.specs.declared.result.Result.TheVariants.{Err}
use Rattle.loops.proofs.TestLaws.{neither, fourth, through}
use Rattle.answers.specs.Outcome.{Outcome, Answer, gives, refused, refused_at, answer_of, outside_of}
use Rattle.answers.specs.declared.Refusal.{Refusal}
use Rattle.answers.proofs.OutcomeLaws.{refused_given, not_refused, by_outcome, refused_whole, refused_kept, accepted_then}
use Rattle.grid.specs.Sides.{bad_sides}
use Rattle.grid.proofs.SidesLaws.{good_sides}
use Rattle.generators.specs.Marks.{bad_report}
use Rattle.generators.specs.declared.Progress.{Progress}
use Rattle.thermal_erosion.specs.SlidePass.{Pass, RowsReady, bad_pass, pass_answer, Passed}
use Rattle.thermal_erosion.specs.OverPass.{bad_rest, bad_thresholds, bad_over, pass_refusal, PassMade}
use Rattle.thermal_erosion.specs.declared.ThermalParams.{ThermalParams}
use Rattle.thermal_erosion.specs.declared.Slid.{Slid}

-- where 4 does not apply, at most 2^31 questions were asked
rest_asked : (strength water from to : Float) (m : Progress) → bad_rest strength water from to m ≡ false → m.asked ≤ 2 ^ 31
rest_asked strength water from to m e =
    let zero : Float = of_bits binary32 0 in
    let one : Float = of_bits binary32 0x3f80_0000 in
    let report : bad_report m to ≡ false = fourth (outside_of strength zero one) (not (finite water)) (outside_of from zero one) _ e in
    ltb-false _ _ (neither (outside_of m.last (neg one) one) _ (neither (outside_of to zero one) _ report).1).1

pub pass_asked : {bad : Bool} (p : ThermalParams) (from to : Float) (m : Progress) → bad ≡ bad_pass p from to m → bad ≡ false → m.asked ≤ 2 ^ 31
pass_asked p from to m e f =
    rest_asked p.strength p.water_level from to m (neither (outside_of p.threshold (of_bits binary32 0) (of_bits binary32 0x4180_0000)) _ (sym e ∙ f)).1

pub over_asked : {bad : Bool} (eight : List Float) (strength water from to : Float) (m : Progress) → bad ≡ bad_over eight strength water from to m → bad ≡ false → m.asked ≤ 2 ^ 31
over_asked eight strength water from to m e f = rest_asked strength water from to m (neither (bad_thresholds eight) _ (sym e ∙ f)).1

module _ (w h : ℕ) (hs : List Float) (copy : ℕ) (bad : Bool) where
  abbrev tests : (A : Type 0) → (ℕ → A) → (ℕ → ℕ → A) → A → A
  tests A number at then = pass_refusal w h hs copy bad number at then

  alike : (A : Type 0) (number : ℕ → A) (at : ℕ → ℕ → A) (then : A) → by_outcome number at then (pass_refusal w h hs copy bad refused refused_at (gives tt)) ≡ tests A number at then
  alike A number at then = simp (through (by_outcome number at then))

  -- an accepted input is one that a pass takes
  pub pass_ready : (m : Progress) → ◌≡◌ {A = Outcome (Unit {0})} (gives tt) (pass_refusal w h hs copy bad refused refused_at (gives tt)) → (bad ≡ false → m.asked ≤ 2 ^ 31) → RowsReady w h (length hs) copy m.asked
  pass_ready m e few =
      let a = not_refused (bad_sides w h) (refused 1) _ tt refl (sym e) in
      let b = not_refused (not (eqb (length hs) (w * h)) || not (eqb copy (w * h))) (refused 3) _ tt refl a.1 in
      let c = not_refused bad (refused 4) _ tt refl b.1 in
      let l = neither (not (eqb (length hs) (w * h))) (not (eqb copy (w * h))) b.0 in
      let r = good_sides w h a.0 in
      let map : length hs ≡ w * h = eqb-true _ _ (not-false _ l.0) in
      let same : copy ≡ w * h = eqb-true _ _ (not-false _ l.1) in
      let asked : m.asked ≤ 2 ^ 31 = few c.0 in
      record { some = r.columns; wide = r.wide; high = r.high; heights = map; copied = same ∙ sym map; questions = omega (arith, asked) }

module _ (w h : ℕ) (hs old : List Float) (bad : Bool) (m : Progress) (s : Pass) where
  -- a refusal hands back the record as given and leaves the slice as it was
  pub made_refused : (why : Refusal) → answer_of {A = Unit {0}} (Err why) ≡ pass_refusal w h hs (length old) bad refused refused_at (gives tt)
      → PassMade w h hs bad m old s (record { answer = Err why; progress = m }) old
  made_refused why e =
      let none = refused_given {a = Err why} {r = why} refl in
      let t = tests w h hs (length old) bad in
      let a = alike w h hs (length old) bad in
      record {
        answer = refused_whole t a (answer_of {A = Unit {0}} (Err why)) e none _;
        handed = refused_kept t a (answer_of {A = Unit {0}} (Err why)) e none m _;
        heights = refused_kept t a (answer_of {A = Unit {0}} (Err why)) e none old _;
      }

  -- an accepted input gets what the pass gives
  pub made_passed : ◌≡◌ {A = Outcome (Unit {0})} (gives tt) (pass_refusal w h hs (length old) bad refused refused_at (gives tt)) → {r : Slid} {new : List Float} → Passed s r new
      → PassMade w h hs bad m old s r new
  made_passed e p =
      let t = tests w h hs (length old) bad in
      let a = alike w h hs (length old) bad in
      record {
        answer = p.answer ∙ accepted_then t a e refused refused_at _;
        handed = p.handed ∙ accepted_then t a e (λ _. m) (λ _ _. m) _;
        heights = p.heights ∙ accepted_then t a e (λ _. old) (λ _ _. old) _;
      }

-- a pass and the answer of what it left
pub passed_by : {s : Pass} {a : Answer} (m : Progress) (new : List Float) → ◌≡◌ {A = Pass} (record { out = new; marks = m }) s → answer_of a ≡ pass_answer (record { out = new; marks = m })
    → Passed s (record { answer = a; progress = m }) new
passed_by {a = a} m new e f = subst (λ (s : Pass). Passed s (record { answer = a; progress = m }) new) e (record { answer = f; handed = refl; heights = refl })

-- the promise of a pass over equal thresholds, where 4 applies alike
pub made_alike : (w h : ℕ) (hs old : List Float) {bad other : Bool} {s t : Pass} (m : Progress) (r : Slid) (new : List Float)
    → bad ≡ other
    → s ≡ t
    → PassMade w h hs bad m old s r new
    → PassMade w h hs other m old t r new
made_alike w h hs old {bad} {other} {s} {t} m r new b e a =
    subst (λ (s : Pass). PassMade w h hs other m old s r new) e (subst (λ (b : Bool). PassMade w h hs b m old s r new) b a)
