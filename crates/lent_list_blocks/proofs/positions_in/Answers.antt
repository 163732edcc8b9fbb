use Rattle.std.proofs.Common.{arith}
use Rattle.lent_list_blocks.proofs.ListedLaws.{picked_none, listed_next}
use Rattle.lent_list_blocks.proofs.positions_in.Goals as goal

pub loop-place-init : goal.loop-place-init
loop-place-init c = picked_none

pub loop-place-preserved : goal.loop-place-preserved
loop-place-preserved c = listed_next c.loop-place.places c.loop-place.invariant (omega (arith, c.loop-place-test.true, c.loop-place.invariant.few, c.requires.1)) (rw c.is_inside.ensures at c.from-k.ensures)
