-- The courses of document 01's runs, and that their questions can be counted.
use Prim.Native.Nat.{ℕ, ◌+◌, ◌^◌, ◌≤◌, ◌<◌, max}
use mathlib.Core.List.{List}
use native.Mathlib.Nat.{mul-le-mul}
use native.Mathlib.Omega.{arith}
use lib.Ieee.{Float}
use Rattle.grid.specs.Sides.{InRange}
use Rattle.thermal_erosion.specs.declared.ThermalParams.{ThermalParams}
use Rattle.run_machine.specs.Plan.{scale_of, passes_of, fluvial_plan}
use Rattle.run_machine.specs.Machine.{Course}
use Rattle.run_machine.specs.Run.{Choice, fluvial_course, slide_course}
use Rattle.run_machine.specs.Nested.{passes_after, iterated, Bounded}
use Rattle.run_settings.specs.declared.FluvialSettings.{FluvialSettings}
use Rattle.run_machine.proofs.AskedLaws.{run_asked, opened_asked, steps_fluvial, steps_thermal}
use Rattle.run_machine.proofs.PlanLaws.{Counted, fluvial_passes}

module _ (w h : ℕ) (sides : InRange w h) where
  pub fluvial_bounded : (s : FluvialSettings) (stop : ℕ) (choose : Choice) → s.iterations ≤ 4096
      → Bounded (fluvial_course w h (fluvial_plan w h s) stop choose)
  fluvial_bounded s stop choose l =
      let p : Counted 8 (passes_of 1 (scale_of w h)) = fluvial_passes w h sides.wide sides.high in
      let its : max s.iterations 1 ≤ 4096 = omega arith in
      record {
        columns = sides.columns;
        rows = sides.rows;
        wide = sides.wide;
        high = sides.high;
        due = omega arith;
        some = p.some;
        iterations = omega arith;
        passes = mul-le-mul its p.few;
        steps = steps_fluvial (fluvial_course w h (fluvial_plan w h s) stop choose) its p.few sides.high;
      }

  pub slide_bounded : (params : ThermalParams) (passes stop : ℕ) → 0 < passes → passes ≤ 32768 → Bounded (slide_course w h params passes stop)
  slide_bounded params passes stop some few =
      record {
        columns = sides.columns;
        rows = sides.rows;
        wide = sides.wide;
        high = sides.high;
        due = some;
        some = omega arith;
        iterations = few;
        passes = omega arith;
        steps = steps_thermal (slide_course w h params passes stop) few (omega arith) sides.high;
      }

-- the record before a pass leaves room for a question after each row, and so does the one before an opening
module _ (c : Course) (b : Bounded c) (hs : List Float) where
  pub asked_room : (it q : ℕ) → it < c.iterations → q < c.passes → (passes_after c q (iterated c it hs)).marks.asked + c.h < 2 ^ 32
  asked_room it q l m =
      let n : q ≤ c.passes = omega arith in
      omega (arith, opened_asked c hs it q l n, b.steps, b.high)

  pub asked_due : (n : ℕ) → n ≤ c.iterations → (iterated c n hs).marks.asked + 1 < 2 ^ 32
  asked_due n l = omega (arith, run_asked c hs n l, b.steps)
