use mathlib.Core.Path.{ap, ◌∙◌}
use Rattle.talus.specs.Talus.{thresholds_of}
use Rattle.thermal_erosion.specs.OverPass.{PassMade}
use Rattle.thermal_erosion.proofs.PassLaws.{rows_with}
use Rattle.thermal_erosion.proofs.SlideLaws.{pass_asked, made_alike}
use Rattle.thermal_erosion.proofs.slide_pass.Goals as goal

pub slide_checked-requires : goal.slide_checked-requires
slide_checked-requires c = let a = c.args in pass_asked a.params a.progress_from a.progress_to a.progress c.bad_pass.ensures

pub returns : goal.returns
returns c =
    let a = c.args in
    let m =
    made_alike _ _ _ _ _ _ _ c.bad_pass.ensures (rows_with a.size.w a.size.h (c.thresholds.ensures ∙ ap (thresholds_of _) c.square_distances.ensures) a.params.strength a.params.water_level a.hmap.now a.progress_from a.progress_to a.stop a.size.h a.progress) c.slide_checked.ensures in
    record { answer = m.answer; handed = m.handed; heights = m.heights }
