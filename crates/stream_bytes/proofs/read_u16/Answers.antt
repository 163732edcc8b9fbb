use native.Mathlib.Omega.{arith}
use Rattle.stream_bytes.specs.Bytes.{number2}
use Rattle.stream_bytes.proofs.read_u16.Goals as goal

pub returns : goal.returns
unfolding number2
returns c = omega (arith, c.from_le_bytes.ensures)
