use native.Mathlib.Omega.{arith}
use Rattle.std.proofs.lemmas.Slice.{between_to_end}
use mathlib.Core.Path.{◌∙◌}
use lib.ListN.{length}
use Rattle.stream_bytes.proofs.MarkLaws.{marked_by, marked_past}
use Rattle.stream_bytes.proofs.has_mark.Goals as goal

pub returns-in-Some : goal.returns-in-Some
returns-in-Some c = let a = c.args in
    marked_by a.bytes.now a.at a.mark.now c.requires (c.in-Some.ensures.lookup.0.2 ∙ between_to_end a.bytes.now a.at (length a.bytes.now) (omega arith)) c.starts_with.ensures.value

pub returns-in-None : goal.returns-in-None
returns-in-None c = let a = c.args in let l = c.in-None.ensures.lookup in marked_past a.bytes.now a.at a.mark.now c.requires (omega (arith, l))
