use mathlib.Core.Path.{◌∙◌}
use native.Mathlib.Omega.{arith}
use Rattle.grid.proofs.NeighbourLaws.{entry_step, entry_neighbour}
use Rattle.talus.specs.Talus.{shed_of}
use Rattle.talus.proofs.StepLaws.{cell_below, shed_step_in, shed_step_out, none_there, around_none, around_more, around_done}
use Rattle.talus.proofs.shed_around.Goals as goal
use Rattle.talus.proofs.shed_around.Goals.{in-Some, in_default}

pub loop-d-init : goal.loop-d-init
loop-d-init g c = around_none _ _

pub shed_at-s-requires-clause-c_in_bounds : goal.shed_at-s-requires-clause-c_in_bounds
shed_at-s-requires-clause-c_in_bounds g c = omega (arith, cell_below c.args.cell.at)

pub toward-requires-clause-step : goal.toward-requires-clause-step
toward-requires-clause-step g c = entry_step c.loop-d.d

pub loop-d-preserved : goal.loop-d-preserved
loop-d-preserved g c =
    elim c.match-toward.branch [
      | in-Some w ↦ around_more _ _ _ _ _ c.loop-d.invariant c.loop-d-test.true (shed_step_in _ _ _ _ _ _ _ (entry_neighbour _ _ _ _ c.loop-d.d w.in-Some.ensures.0) w.in-Some.ensures.1 _ _ (w.s-is ∙ w.shed_at-s.ensures))
      | in_default w ↦ around_more _ _ _ _ _ c.loop-d.invariant c.loop-d-test.true (shed_step_out _ _ _ _ _ _ (none_there _ _ c.args.cell.c c.loop-d.d w.in_default.ensures) _ _ w.s-is)
    ]

pub returns : goal.returns
unfolding shed_of
returns g c = around_done _ _ _ _ c.loop-d.invariant c.loop-d-test.false
