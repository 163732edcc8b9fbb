use Prim.Native.Nat.{◌+◌, ◌*◌, ◌≤◌, ◌<◌, ◌^◌}
use native.Mathlib.Omega.{arith}
use Rattle.square_root.proofs.WholeLaws.{square_mono, one_below, one_above, itself}
use Rattle.square_root.proofs.NewtonLaws.{over_around, range}
use Rattle.square_root.proofs.nearest_root.Goals as goal
use Rattle.square_root.proofs.nearest_root.Goals.{After-whole_root-s}

sized : (c : After-whole_root-s) → (2 ^ 23 ≤ c.whole_root-s.result + 1) × (c.whole_root-s.result < 2 ^ 24 + 1)
sized c = range c.args.n 1 c.whole_root-s.result (omega arith) (omega arith) (over_around c.whole_root-s.ensures)

small : (c : After-whole_root-s) → c.whole_root-s.result * c.whole_root-s.result ≤ 2 ^ 24 * 2 ^ 24
small c = square_mono {a = c.whole_root-s.result} {b = 2 ^ 24} (omega (arith, sized c))

pub overflow_mul-square : goal.overflow_mul-square
overflow_mul-square c = omega (arith, small c)

pub overflow_add-n : goal.overflow_add-n
overflow_add-n c = omega (arith, sized c)

pub overflow_sub-result : goal.overflow_sub-result
overflow_sub-result c = omega (arith, sized (goal.at.overflow_sub-result c).After-whole_root-s)

pub returns-then-n-s : goal.returns-then-n-s
returns-then-n-s c = one_below c.args.n c.whole_root-s.result (omega arith) (omega arith) c.whole_root-s.ensures (omega arith)

pub overflow_add-square : goal.overflow_add-square
overflow_add-square c = omega (arith, small (goal.at.overflow_add-square c).After-whole_root-s, sized (goal.at.overflow_add-square c).After-whole_root-s)

pub returns-then-square-s : goal.returns-then-square-s
returns-then-square-s c = one_above c.args.n c.whole_root-s.result (omega arith) (omega arith) c.whole_root-s.ensures (omega arith)

pub returns : goal.returns
returns c = itself c.args.n c.whole_root-s.result (omega arith) (omega arith) c.whole_root-s.ensures (omega arith) (omega arith)
