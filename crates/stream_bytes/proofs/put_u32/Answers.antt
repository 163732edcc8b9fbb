use mathlib.Core.Path.{refl, ◌∙◌}
use native.Mathlib.Omega.{arith}
use Rattle.stream_bytes.specs.Bytes.{bytes4}
use Rattle.stream_bytes.proofs.PutLaws.{copied, four_bytes}
use Rattle.stream_bytes.proofs.put_u32.Goals as goal

pub returns : goal.returns
returns c = let a = c.args in
    copied a.out.now a.at 4 (bytes4 a.x) refl c.requires (c.copy_from_slice.ensures.after ∙ c.to_le_bytes.ensures ∙ four_bytes a.x (omega (arith, c.ranges.x)))
