use Rattle.std.proofs.Common.{ap, ◌∙◌}
use lib.Ieee.{neg, of_bits}
use Rattle.floats.proofs.ValueLaws.{holds}
use Rattle.floats.proofs.WholeLaws.{above_zero, below_zero, neg_neg, whole_neg, whole_zero}
use Rattle.floats.proofs.to_whole.Goals as goal

pub whole_above-requires : goal.whole_above-requires
unfolding of_bits
whole_above-requires g c = above_zero _ c.if-x.true

pub whole_above-requires-then-x-2 : goal.whole_above-requires-then-x-2
unfolding of_bits
whole_above-requires-then-x-2 g c = below_zero _ c.if-x-2.true

pub returns-then-x-2 : goal.returns-then-x-2
returns-then-x-2 g c = ap neg (c.whole_above-then-x-2.ensures ∙ whole_neg _ _) ∙ neg_neg _

pub returns : goal.returns
unfolding of_bits
returns g c = whole_zero _ _ (holds c.well_formed.0.1) c.if-x.false c.if-x-2.false
