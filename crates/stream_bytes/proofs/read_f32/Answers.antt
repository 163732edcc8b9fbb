use mathlib.Core.Path.{ap, ◌∙◌}
use lib.Ieee.{binary32, of_bits}
use Rattle.stream_bytes.proofs.read_f32.Goals as goal

pub returns : goal.returns
returns c = c.from_bits.ensures ∙ ap (of_bits binary32) c.read_u32.ensures
