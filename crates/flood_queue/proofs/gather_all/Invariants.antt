use Rattle.flood_queue.specs.Scans.{Gathered}
use Rattle.flood_queue.proofs.gather_all.Given as goal

abbrev pub invariant-loop-c : goal.invariant-loop-c
invariant-loop-c l = Gathered l.status l.spill l.c l.len l.queue
