use mathlib.Core.Path.{sym, subst}
use Prim.Native.Nat.{ℕ}
use native.Mathlib.Omega.{arith}
use Rattle.square_root.specs.Inner.{Over}
use Rattle.square_root.proofs.NewtonLaws.{over_around, further, range}
use Rattle.square_root.proofs.whole_root.Goals as goal
use Rattle.square_root.proofs.whole_root.Goals.{After-newton-s}

pub newton-s-requires : goal.newton-s-requires
newton-s-requires c = omega (arith, range c.args.n 200000 c.first_guess-g.result (omega arith) (omega arith) c.first_guess-g.ensures)

-- one step from the line
second : (c : After-newton-s) → Over c.args.n 2500 c.newton-s.result
second c =
    subst (λ (s : ℕ). Over c.args.n 2500 s) (sym c.newton-s.ensures)
    (further c.args.n 200000 2500 c.first_guess-g.result (omega arith) (omega arith) c.first_guess-g.ensures (omega arith) (omega arith))

pub newton-requires : goal.newton-requires
newton-requires c = omega (arith, range c.args.n 2500 c.newton-s.result (omega arith) (omega arith) (over_around (second c)))

pub returns : goal.returns
returns c = subst (λ (s : ℕ). Over c.args.n 1 s) (sym c.newton.ensures)
    (further c.args.n 2500 1 c.newton-s.result (omega arith) (omega arith) (over_around (second (goal.at.returns c).After-newton-s)) (omega arith) (omega arith))
