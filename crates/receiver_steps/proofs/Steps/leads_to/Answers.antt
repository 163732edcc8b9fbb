use native.Mathlib.Omega.{arith}
use Rattle.receiver_steps.proofs.StepLaws.{rows, offset_at}
use Rattle.receiver_steps.proofs.Steps.leads_to.Goals as goal

pub overflow_add-result : goal.overflow_add-result
overflow_add-result c = omega (arith, offset_at _ _ _ c.args.self.now.made c.requires.c_bound.1, rows _ _ c.args.self.now.wide c.requires.c_bound.1, c.requires.c_bound.0)

pub overflow_sub-result : goal.overflow_sub-result
overflow_sub-result c = omega (arith, offset_at _ _ _ c.args.self.now.made c.requires.c_bound.1, c.requires.past)

pub overflow_sub-result-2 : goal.overflow_sub-result-2
overflow_sub-result-2 c = omega (arith, offset_at _ _ _ c.args.self.now.made c.requires.c_bound.1, c.requires.past)

pub returns : goal.returns
returns c = omega (arith, offset_at _ _ _ c.args.self.now.made c.requires.c_bound.1)
