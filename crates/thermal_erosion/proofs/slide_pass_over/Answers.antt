use Rattle.thermal_erosion.proofs.PassLaws.{rows_with}
use Rattle.thermal_erosion.proofs.SlideLaws.{over_asked, made_alike}
use Rattle.thermal_erosion.proofs.slide_pass_over.Goals as goal

pub slide_checked-requires : goal.slide_checked-requires
slide_checked-requires c = let a = c.args in over_asked a.thresholds a.strength a.water_level a.progress_from a.progress_to a.progress c.bad_over.ensures

pub returns : goal.returns
returns c =
    let a = c.args in
    made_alike _ _ _ _ _ _ _ c.bad_over.ensures (rows_with a.size.w a.size.h c.table.ensures a.strength a.water_level a.hmap.now a.progress_from a.progress_to a.stop a.size.h a.progress) c.slide_checked.ensures
