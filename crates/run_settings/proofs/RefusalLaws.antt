-- What a whole run refuses is what specs/Refusals.antt says, and what an accepted input is known by.
use Prim.Native.Nat.{ℕ, ◌*◌, ◌≤◌}
use mathlib.Core.Path.{◌≡◌, refl, ap₂, ◌∙◌}
use mathlib.Core.Bool.{Bool, not, ◌||◌, or-false, false}
use mathlib.Core.List.{List}
use borrow.Author.Tests.{eqb-true, ltb-false, le-ltb, not-false}
use lib.ListN.{length}
use lib.Dec.{eqb, ltb}
use lib.Ieee.{Float, binary32, of_bits, neg}
use Rattle.answers.proofs.OutcomeLaws.{not_refused, not_refused_unless}
use Rattle.loops.proofs.TestLaws.{neither, through, fourth}
use Rattle.answers.specs.Outcome.{gives, refused, refused_at, number_in, Outcome, outside_of}
use Rattle.grid.specs.Sides.{bad_sides}
use Rattle.grid.specs.Heights.{first_not_finite, all_finite}
use Rattle.grid.proofs.SidesLaws.{good_sides}
use Rattle.run_settings.specs.Accepted.{refusal_on, SameRefusal, AcceptedRun}
use lib.Ieee.Scale.{finite}
use Rattle.run_settings.specs.Refusals.{not_share, bad_either, bad_fluvial, bad_thermal}
use Rattle.run_settings.specs.declared.FluvialSettings.{FluvialSettings}
use Rattle.run_settings.specs.declared.ThermalSettings.{ThermalSettings}

pub same_refusal : SameRefusal
same_refusal w h bad map scratch room = simp (le-ltb scratch (w * h) room, or-false, through number_in)

pub accepted_by : (w h : ℕ) (bad : Bool) (map : List Float) (scratch : ℕ) → refusal_on w h bad map scratch ≡ gives tt → AcceptedRun w h bad map scratch
accepted_by w h bad map scratch e =
    let a = not_refused (bad_sides w h) (refused 1) _ tt refl e in
    let b = not_refused (not (eqb (length map) (w * h)) || ltb scratch (w * h)) (refused 3) _ tt refl a.1 in
    let c = not_refused bad (refused 4) _ tt refl b.1 in
    let l = neither (not (eqb (length map) (w * h))) (ltb scratch (w * h)) b.0 in
    record {
      sides = good_sides w h a.0;
      cells = eqb-true _ _ (not-false _ l.0);
      room = ltb-false _ _ l.1;
      settings = c.0;
      finites = (not_refused_unless (all_finite map) tt (refused_at 5 (first_not_finite map)) tt refl c.1).0;
    }

-- what was decided by the test of the settings and the length of the shortest scratch slice
pub decided_by : (w h : ℕ) (map : List Float) {o : Outcome (Unit {0})} {bad bad' : Bool} {scratch scratch' : ℕ} → o ≡ refusal_on w h bad map scratch → bad ≡ bad' → scratch ≡ scratch'
    → o ≡ refusal_on w h bad' map scratch'
decided_by w h map e b s = e ∙ ap₂ (λ (bad : Bool) (scratch : ℕ). refusal_on w h bad map scratch) b s

few_iterations : (water strength talus : Float) (iterations : ℕ) → bad_either water strength talus iterations ≡ false → iterations ≤ 4096
few_iterations water strength talus iterations e = ltb-false 4096 iterations (fourth (not (finite water)) (not_share strength) (not_share talus) (ltb 4096 iterations) e)

pub thermal_iterations : (s : ThermalSettings) → bad_thermal s ≡ false → s.iterations ≤ 4096
thermal_iterations s = few_iterations s.water_level s.strength s.talus s.iterations

pub fluvial_iterations : (s : FluvialSettings) → bad_fluvial s ≡ false → s.iterations ≤ 4096
fluvial_iterations s e =
    few_iterations s.water_level s.strength s.talus s.iterations
    (neither (outside_of s.uplift (neg (of_bits binary32 0x3f80_0000)) (of_bits binary32 0x3f80_0000)) (bad_either s.water_level s.strength s.talus s.iterations) e).1
