use Rattle.areas.specs.Words.{Ahead}
use Rattle.areas.proofs.read_ahead.Given as goal

abbrev pub invariant-loop-j : goal.invariant-loop-j
invariant-loop-j l = Ahead l.recv l.cells 0 l.j l.below
