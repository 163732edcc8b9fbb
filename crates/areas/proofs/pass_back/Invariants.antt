use mathlib.Core.Path.{◌≡◌}
use lib.ListN.{drop}
use Rattle.areas.specs.Words.{passed_back}
use Rattle.areas.proofs.pass_back.Given as goal

abbrev pub invariant-loop-j : goal.invariant-loop-j
invariant-loop-j l = l.words ≡ passed_back l.recv (drop l.j l.cells) l.initial.words
