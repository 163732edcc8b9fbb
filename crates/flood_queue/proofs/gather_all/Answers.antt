use Rattle.flood_queue.proofs.BeginLaws.{gathered_none}
use Rattle.flood_queue.proofs.gather_all.Goals as goal

pub loop-c-init : goal.loop-c-init
loop-c-init c = gathered_none _ _ _
