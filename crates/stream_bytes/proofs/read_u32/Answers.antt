use Prim.Native.Nat.{◌+◌}
use native.Mathlib.Omega.{arith}
use lib.ListN.{get_or}
use mathlib.Core.Path.{◌≡◌, ap}
use Rattle.stream_bytes.specs.Bytes.{number4, number2}
use Rattle.stream_bytes.proofs.read_u32.Goals as goal

pub returns : goal.returns
unfolding number4 number2
returns c = let last : c.args.at + 3 ≡ c.args.at + 2 + 1 = omega arith in
    let e = ap (λ i. get_or c.args.bytes.now i 0) last in
    omega (arith, c.from_le_bytes.ensures, e)
