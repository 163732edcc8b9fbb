use mathlib.Core.Path.{sym, ap, ◌∙◌}
use native.Mathlib.Omega.{arith}
use Rattle.generators.specs.Marks.{report_of}
use Rattle.thermal_erosion.proofs.PassLaws.{rowed_none, rowed_length, rowed_asked, rowed_more, rowed_stopped, rowed_done}
use Rattle.thermal_erosion.proofs.slide_pass_into.Goals as goal

pub copy_heights-requires : goal.copy_heights-requires
copy_heights-requires c = c.requires.copied

pub loop-y-init : goal.loop-y-init
loop-y-init c = rowed_none c.copy_heights.ensures

pub shape_of-out-then-marks : goal.shape_of-out-then-marks
shape_of-out-then-marks c = rowed_length c.loop-y.invariant ∙ sym c.requires.copied

pub returns-then-marks : goal.returns-then-marks
returns-then-marks c = rowed_stopped c.loop-y.invariant c.if-marks.true

pub slide_row-requires : goal.slide_row-requires
slide_row-requires c = record { le_w = c.requires.some; in_row = record { columns = omega arith; row = c.loop-y-test.true; wide = c.requires.wide; high = c.requires.high; size = c.requires.heights }; out_len = rowed_length c.loop-y.invariant }

pub fraction-requires : goal.fraction-requires
fraction-requires c = record { y_bound = omega (arith, c.requires); h_bound = c.requires.high }

pub ask-marks-requires : goal.ask-marks-requires
ask-marks-requires c = omega (arith, c.requires, c.loop-y-test.true, rowed_asked c.loop-y.invariant)

pub loop-y-smaller : goal.loop-y-smaller
loop-y-smaller c = omega (arith, c.loop-y-test.true)

pub loop-y-preserved : goal.loop-y-preserved
loop-y-preserved c = rowed_more c.loop-y.invariant _ _ c.loop-y-test.true c.if-marks.false c.slide_row.ensures (c.ask-marks.ensures ∙ ap (λ p. report_of c.loop-y.marks p c.args.stop) c.fraction.ensures)

pub shape_of-out : goal.shape_of-out
shape_of-out c = rowed_length c.loop-y.invariant ∙ sym c.requires.copied

pub returns : goal.returns
returns c = rowed_done c.loop-y.invariant c.loop-y-test.false
