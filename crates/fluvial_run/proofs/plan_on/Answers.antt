use Rattle.fluvial_run.proofs.RunLaws.{plan_is}
use Rattle.fluvial_run.proofs.plan_on.Goals as goal

pub returns : goal.returns
returns c = plan_is _ c.fluvial_iterations.ensures c.passes.ensures c.fluvial_plan.ensures c.talus_plan.ensures c.fluvial_land.ensures
