use native.Mathlib.Omega.{arith}
use Rattle.resample.proofs.WorkLaws.{work_full, work_scaled}
use Rattle.resample.proofs.work_sides.Goals as goal

pub returns-then-side-res : goal.returns-then-side-res
returns-then-side-res c = work_full _ _ _ c.longest-side.ensures c.if-side-res.true

pub ratio-coef-requires : goal.ratio-coef-requires
ratio-coef-requires c = record { a_bound = omega (arith, c.if-side-res.false, c.longest-side.ensures, c.requires.w_bound, c.requires.h_bound); b_bound = omega (arith, c.longest-side.ensures, c.requires.w_bound, c.requires.h_bound) }

pub scaled_side-requires : goal.scaled_side-requires
scaled_side-requires c = c.requires.w_bound

pub scaled_side-requires-2 : goal.scaled_side-requires-2
scaled_side-requires-2 c = c.requires.h_bound

pub returns : goal.returns
returns c = work_scaled _ _ _ _ _ _ c.longest-side.ensures c.if-side-res.false c.ratio-coef.ensures c.scaled_side.ensures c.scaled_side-2.ensures
