use lib.ListN.{length}
use Rattle.areas.proofs.SumLaws.{Adding}
use Rattle.areas.proofs.accumulate.Given as goal

abbrev pub invariant-loop-c : goal.invariant-loop-c
invariant-loop-c l = Adding (length l.recv) l.recv l.order l.c-iterator.iter.rest.now l.area
