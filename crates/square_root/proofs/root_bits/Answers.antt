use mathlib.Core.Path.{sym, subst}
use Prim.Native.Nat.{ℕ, ◌^◌, ◌≤◌, ◌<◌}
use native.Mathlib.Omega.{arith}
use Rattle.square_root.specs.Inner.{scaled_to}
use Rattle.square_root.proofs.WholeLaws.{nearest_high}
use Rattle.square_root.proofs.RootLaws.{scaled_low, scaled_high}
use Rattle.square_root.proofs.root_bits.Goals as goal
use Rattle.square_root.proofs.root_bits.Goals.{After-nearest_root-q, Start}

digits : (c : Start) → (2 ^ 46 ≤ scaled_to c.args.sig c.args.p) × (scaled_to c.args.sig c.args.p < 2 ^ 48)
digits c = (scaled_low c.args.sig c.args.p c.requires.0, scaled_high c.args.sig c.args.p c.requires.1)

pub overflow_mul-n-2 : goal.overflow_mul-n-2
overflow_mul-n-2 c = omega (arith, (digits c).1)

pub nearest_root-q-requires : goal.nearest_root-q-requires
nearest_root-q-requires c = digits c

top : (c : After-nearest_root-q) → c.nearest_root-q.result ≤ 2 ^ 24
top c = subst (λ (q : ℕ). q ≤ 2 ^ 24) (sym c.nearest_root-q.ensures) (nearest_high (scaled_to c.args.sig c.args.p) (digits c.before).0 (digits c.before).1)

pub overflow_add-result-2 : goal.overflow_add-result-2
overflow_add-result-2 c = omega (arith, top c)

pub overflow_cast-result : goal.overflow_cast-result
overflow_cast-result c = omega (arith, top c)
