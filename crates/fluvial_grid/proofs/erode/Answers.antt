use Rattle.std.proofs.lemmas.Result.{err_from_is_err_and}
use mathlib.Core.Path.{◌≡◌, sym, ◌∙◌}
use mathlib.Core.Bool.{◌&&◌, false}
use lib.Dec.{eqb}
use Rattle.run_parts.proofs.WholeLaws.{whole_on_map, whole_averages, whole_ended, whole_added}
use Rattle.fluvial_loop.specs.Loops.{course_by}
use Rattle.run_parts.proofs.GridLaws.{back_grids}
use Rattle.fluvial_grid.proofs.GridLaws.{erodes_enough, erodes_map, erodes_averages}
use Rattle.fluvial_grid.proofs.erode.Goals as goal
use Rattle.fluvial_grid.proofs.erode.Goals.{Else-on_map}

-- the working sides are not the map's
off : (c : Else-on_map) → (eqb c.args.work.w c.args.size.w && eqb c.args.work.h c.args.size.h) ≡ false
off c = sym c.on_map.ensures ∙ c.if-on_map.false

pub run_iterations-requires : goal.run_iterations-requires
run_iterations-requires c =
    let m = erodes_map c.requires c.on_map.ensures c.if-on_map.true in
    record { bounded = c.requires.bounded; accepted_grid = m; enough = erodes_enough c.requires m.cells; sides_value = c.requires.sides_open }

pub returns-then-on_map-clause-ran : goal.returns-then-on_map-clause-ran
returns-then-on_map-clause-ran c = whole_on_map _ _ _ _ (sym c.on_map.ensures ∙ c.if-on_map.true) c.run_iterations.ensures.ran

pub returns-in_err-reduce-clause-ran : goal.returns-in_err-reduce-clause-ran
returns-in_err-reduce-clause-ran c =
    let p = err_from_is_err_and c.from_residual.result c.from_residual.ensures.1 in
    rw (p.1, p.2) (whole_averages _ _ _ _ (off (goal.at.returns-in_err-reduce-clause-ran c).Else-on_map) c.reduce.ensures.reduced c.in_err-reduce.was c.reduce.ensures.off)

pub run_iterations-requires-2 : goal.run_iterations-requires-2
run_iterations-requires-2 c =
    let m = erodes_averages c.requires _ c.reduce.ensures.reduced c.in_ok-reduce.was c.reduce.auto.eroded in
    record { bounded = c.requires.bounded; accepted_grid = m; enough = erodes_enough c.requires m.cells; sides_value = c.requires.sides_open }

pub returns-in_err-done-clause-ran : goal.returns-in_err-done-clause-ran
returns-in_err-done-clause-ran c =
    let a = c.args in
    let p = err_from_is_err_and c.from_residual-in_err-done.result c.from_residual-in_err-done.ensures.1 in
    rw (p.1, p.2)
    (whole_ended a.size.w a.size.h (course_by a.work.w a.work.h a.plan a.stop) a.hmap.now (off (goal.at.returns-in_err-done-clause-ran c).Else-on_map) c.reduce.ensures.reduced c.in_ok-reduce.was c.run_iterations-2.new.hmap c.run_iterations-2.result c.run_iterations-2.ensures.ran c.in_err-done.was)

pub add_back-requires : goal.add_back-requires
add_back-requires c =
    let k = c.reduce.auto in
    let p = back_grids c.requires.sides c.requires.heights (k.small ∙ c.requires.small) (c.run_iterations-2.auto.hmap ∙ k.eroded ∙ c.requires.eroded) in
    record { grid = p.0; grid_2 = p.1.0; eroded_len = p.1.1 }

pub returns-clause-ran : goal.returns-clause-ran
returns-clause-ran c =
    let a = c.args in
    whole_added a.size.w a.size.h (course_by a.work.w a.work.h a.plan a.stop) a.hmap.now (off (goal.at.returns-clause-ran c).Else-on_map) c.reduce.ensures.reduced c.in_ok-reduce.was c.run_iterations-2.new.hmap c.run_iterations-2.result c.run_iterations-2.ensures.ran _ c.in_ok-done.was c.add_back.ensures.fact
