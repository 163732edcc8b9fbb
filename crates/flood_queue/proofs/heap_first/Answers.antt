use mathlib.Core.Path.{ap, ◌∙◌}
use mathlib.Core.Bool.{not}
use borrow.Author.Tests.{eq-eqb}
use lib.ListN.{get_or}
use Rattle.flood_heap.specs.Queue.{queue_place}
use Rattle.flood_queue.proofs.ScanLaws.{first_none, first_some}
use Rattle.flood_queue.proofs.heap_first.Goals as goal

pub returns-else-len-ne0 : goal.returns-else-len-ne0
returns-else-len-ne0 c = let a = c.args in ap not (eq-eqb a.len 0 c.if-len-ne0.false) ∙ first_none _ (queue_place a.spill.now (get_or a.queue.now 0 0)) a.limit c.if-len-ne0.false

pub returns-then-len-ne0 : goal.returns-then-len-ne0
returns-then-len-ne0 c = let a = c.args in first_some _ _ (queue_place a.spill.now (get_or a.queue.now 0 0)) a.limit c.if-len-ne0.true c.place.ensures
