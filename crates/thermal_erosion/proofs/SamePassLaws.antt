-- On the eight thresholds that `slide_pass` prepares, `slide_pass_over` promises what `slide_pass` promises.
use mathlib.Core.Path.{◌≡◌, sym, ap, ◌∙◌, subst}
use mathlib.Core.Bool.{Bool, false, ◌||◌}
use lib.Ieee.{of_bits, le, lt, eq}
use Rattle.grid_spacing.specs.Distances.{square_distances}
use Rattle.thermal_erosion.specs.SlidePass.{bad_pass, pass_of}
use Rattle.thermal_erosion.specs.OverPass.{prepared, bad_rest, bad_threshold, bad_thresholds, bad_over, PassMade}
use Rattle.thermal_erosion.specs.SamePass.{PreparedInRange, SamePass}
use Rattle.thermal_erosion.specs.declared.PassMarks.{PassMarks}
use Rattle.thermal_erosion.specs.declared.ThermalParams.{ThermalParams}
use Rattle.thermal_erosion.proofs.ThresholdLaws.{itself_in, product_in}

pub prepared_in_range : PreparedInRange
unfolding bad_thresholds of_bits le lt eq
prepared_in_range p a = rw (itself_in p.threshold a, product_in p.threshold square_distances.diagonal tt tt a)

-- 4 applies to both calls alike
settings_alike : (p : ThermalParams) (by : PassMarks) → bad_threshold p.threshold ≡ false
    → bad_pass p by.from by.to by.marks ≡ bad_over (prepared p) p.strength p.water_level by.from by.to by.marks
settings_alike p by a = ap (λ (b : Bool). b || bad_rest p.strength p.water_level by.from by.to by.marks) (a ∙ sym (prepared_in_range p a))

pub same_pass : SamePass
same_pass = (
  prepared_in_range,
  λ w h hs p by old r new a.
      let promise : Bool → Type 0 = λ b. PassMade w h hs b by.marks old (pass_of w h p hs by.from by.to by.stop by.marks) r new in
      record {
        over = λ m. subst promise (settings_alike p by a) (record { answer = m.answer; handed = m.handed; heights = m.heights });
        back = λ m.
            let k : PassMade w h hs (bad_pass p by.from by.to by.marks) by.marks old (pass_of w h p hs by.from by.to by.stop by.marks) r new = subst promise (sym (settings_alike p by a)) m in
            record { answer = k.answer; handed = k.handed; heights = k.heights };
      },
)
