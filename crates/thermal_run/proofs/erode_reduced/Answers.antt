use Rattle.std.proofs.lemmas.Result.{err_from_is_err_and}
use mathlib.Core.Path.{◌∙◌}
use Rattle.run_machine.specs.Run.{slide_course}
use Rattle.run_parts.proofs.WholeLaws.{whole_averages, whole_ended, whole_added}
use Rattle.run_parts.proofs.GridLaws.{back_grids}
use Rattle.thermal_run.proofs.erode_reduced.Goals as goal

pub returns-in_err-reduce : goal.returns-in_err-reduce
returns-in_err-reduce c =
    let p = err_from_is_err_and c.from_residual.result c.from_residual.ensures.1 in
    rw (p.1, p.2) (whole_averages _ _ _ _ c.requires.h_value c.reduce.ensures.reduced c.in_err-reduce.was c.reduce.ensures.off)

pub returns-in_err-done : goal.returns-in_err-done
returns-in_err-done c =
    let a = c.args in
    let p = err_from_is_err_and c.from_residual-in_err-done.result c.from_residual-in_err-done.ensures.1 in
    rw (p.1, p.2)
    (whole_ended a.size.w a.size.h (slide_course a.work.w a.work.h a.plan.slides a.plan.passes a.stop) a.hmap.now c.requires.h_value c.reduce.ensures.reduced c.in_ok-reduce.was c.slide_passes.new.hmap c.slide_passes.result c.slide_passes.ensures c.in_err-done.was)

pub add_back-requires : goal.add_back-requires
add_back-requires c = let p = let p = c.requires.thermal_reduces in back_grids p.sides p.heights (c.reduce.auto.small ∙ p.averages) (c.slide_passes.auto.hmap ∙ c.reduce.auto.eroded ∙ p.changed) in record { grid = p.0; grid_2 = p.1.0; eroded_len = p.1.1 }

pub returns : goal.returns
returns c =
    let a = c.args in
    whole_added a.size.w a.size.h (slide_course a.work.w a.work.h a.plan.slides a.plan.passes a.stop) a.hmap.now c.requires.h_value c.reduce.ensures.reduced c.in_ok-reduce.was c.slide_passes.new.hmap c.slide_passes.result c.slide_passes.ensures _ c.in_ok-done.was c.add_back.ensures.fact
