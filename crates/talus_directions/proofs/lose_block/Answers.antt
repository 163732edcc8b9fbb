use mathlib.Core.Path.{ap, ◌∙◌}
use lib.ListN.{set, length-set}
use Rattle.talus.proofs.RowLaws.{passing_none, passing_more, passing_done}
use Rattle.talus_directions.specs.Parts.{losses}
use Rattle.talus_directions.proofs.lose_block.Goals as goal

pub loop-i-init : goal.loop-i-init
loop-i-init c = passing_none

pub loop-i-preserved : goal.loop-i-preserved
loop-i-preserved c = passing_more c.loop-i.invariant c.loop-i-test.true (length-set c.loop-i.out c.cell-c.result.c c.lost.result) (ap (set c.loop-i.out c.cell-c.result.c) c.lost.ensures ∙ rw c.cell-c.ensures.c)

pub returns : goal.returns
unfolding losses
returns c = passing_done c.loop-i.invariant c.loop-i-test.false
