use mathlib.Core.Bool.{not}
use lib.Dec.{eqb}
use Rattle.loops.proofs.FillLaws.{Filling}
use Rattle.areas.specs.Words.{start_areas}
use Rattle.areas.proofs.WordLaws.{word_with}
use Rattle.areas.proofs.to_words.Given as goal

abbrev pub invariant-loop-i : goal.invariant-loop-i
invariant-loop-i g l = Filling (word_with l.width l.recv (start_areas (not (eqb g.row.GIVEN 0)) l.initial.words)) l.i l.initial.words l.words
