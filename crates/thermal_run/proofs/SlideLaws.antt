-- The loop over the passes of a thermal run: each iteration is one pass, and nothing opens it.
use Prim.Native.Nat.{ℕ, suc, ◌+◌, ◌≤◌, ◌<◌}
use mathlib.Core.Path.{◌≡◌, refl, sym, ap, ap₂, ◌∙◌, subst}
use mathlib.Core.List.{List}
use native.Mathlib.Omega.{arith}
use lib.ListN.{length}
use lib.Ieee.{Float, binary32, div}
use Rattle.floats.specs.Stand.{whole}
use Rattle.thermal_erosion.specs.SlidePass.{rows_of}
use Rattle.thermal_erosion.specs.declared.ThermalParams.{ThermalParams}
use Rattle.grid_spacing.specs.Distances.{square_distances}
use Rattle.talus.specs.Talus.{thresholds_of}
use Rattle.run_machine.specs.Machine.{Course}
use Rattle.run_machine.specs.Run.{slide_course}
use Rattle.run_machine.specs.Nested.{iterated, nested, Bounded}
use Rattle.run_machine.proofs.BoundLaws.{slide_bounded}
use Rattle.run_parts.specs.Reached.{Reach, Worked, seen, begun, after_pass, PassReady}
use Rattle.run_parts.proofs.ReachedLaws.{worked, rows_by}
use Rattle.run_parts.proofs.LoopLaws.{going_none, going_done, going_ended, Sliding, sliding_first, sliding_pass, sliding_done, sliding_ready}
use Rattle.thermal_run.specs.ThermalRun.{ThermalSlides}

-- before pass `it`, or once the run has ended
pub record Passing (c : Course) (hs : List Float) (copied it : ℕ) (map copy : List Float) (r : Reach) : Type 0 where
  pub held : worked map r ≡ seen (iterated c it hs)
  pub most : it ≤ c.iterations
  pub long : length map ≡ length hs
  pub room : length copy ≡ copied

-- the counts of the run fit
slides_bounded : {w h passes map copy : ℕ} (params : ThermalParams) (stop : ℕ) → ThermalSlides w h map copy → 1 ≤ passes → passes ≤ 32768 → Bounded (slide_course w h params passes stop)
slides_bounded {w} {h} {passes} params stop s some few = slide_bounded w h s.sides params passes stop some few

module _ (w h : ℕ) (params : ThermalParams) (passes stop : ℕ) (hs : List Float) where
  abbrev course : Course
  course = slide_course w h params passes stop

  pub passing_none : (copy : List Float) {r : Reach} → r ≡ begun → Passing course hs (length copy) 0 hs copy r
  passing_none copy e = record { held = ap (worked hs) e ∙ (going_none course hs).held; most = omega arith; long = refl; room = refl }

  module _ {copied it : ℕ} {map copy : List Float} {r : Reach} (p : Passing course hs copied it map copy r) where
    pub passing_done : passes ≤ it → worked map r ≡ seen (nested course hs)
    passing_done l = going_done course hs p.held p.most l

    pub passing_ended : (r.number ≡ 0 → ⊥) → worked map r ≡ seen (nested course hs)
    passing_ended z = going_ended course hs it p.held p.most z

    pub passing_on : {r' : Reach} → r ≡ r' → Passing course hs copied it map copy r'
    passing_on e = subst (Passing course hs copied it map copy) e p

    module _ (on : r.number ≡ 0) where
      sliding : Sliding course hs it 0 map r
      sliding = sliding_first course hs it refl (record { held = p.held; on = on })

      pub passing_ready : ThermalSlides w h (length hs) copied → 1 ≤ passes → passes ≤ 32768 → it < passes → PassReady w h (length map) (length copy) r
      passing_ready s some few l =
          sliding_ready course hs it 0 (omega arith) sliding (slides_bounded params stop s some few) l (p.long ∙ s.heights)
          (p.room ∙ s.copied ∙ sym s.heights ∙ sym p.long)

      abbrev pass_on : List Float → Float → Float → Worked
      pass_on ts from to =
          after_pass map r (rows_of w h ts params.strength params.water_level map from to stop h r.marks)

      -- one pass more, between its fractions
      pub passing_more : {ts : List Float} (from to : Float) (x : Worked) (copy' : List Float)
          → ts ≡ thresholds_of params.threshold square_distances
          → from ≡ div binary32 (whole it) (whole passes)
          → to ≡ div binary32 (whole (it + 1)) (whole passes)
          → x ≡ pass_on ts from to
          → it < passes
          → length x.heights ≡ length map
          → length copy' ≡ length copy
          → Passing course hs copied (it + 1) x.heights copy' x.reached
      passing_more from to x copy' t f g e l m k =
          let a : it ≡ it + 0 = omega arith in
          let b : it + 1 ≡ it + suc 0 = omega arith in
          let made : x ≡ after_pass map r (rows_by course it 0 map r.marks) =
          e ∙ ap (λ (ts : List Float). pass_on ts from to) t
          ∙ ap₂ (pass_on course.thresholds) (f ∙ ap (λ (n : ℕ). div binary32 (whole n) (whole passes)) a) (g ∙ ap (λ (n : ℕ). div binary32 (whole n) (whole passes)) b) in
          record {
            held = sliding_done course hs it (0 + 1) (sliding_pass course hs it 0 (omega arith) sliding made) refl;
            most = omega arith;
            long = m ∙ p.long;
            room = k ∙ p.room;
          }
