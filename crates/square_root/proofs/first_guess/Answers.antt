use Prim.Native.Nat.{◌^◌}
use native.Mathlib.Omega.{arith}
use Rattle.square_root.proofs.NewtonLaws.{between}
use Rattle.square_root.proofs.first_guess.Goals as goal

pub returns-then-n-lt140737488355328 : goal.returns-then-n-lt140737488355328
returns-then-n-lt140737488355328 c = omega (arith, between c.args.n (2 ^ 23) 12000000 10300000 (omega arith) (omega arith) (omega arith))

pub returns : goal.returns
returns c = omega (arith, between c.args.n 11800000 (2 ^ 24) 14900000 (omega arith) (omega arith) (omega arith))
