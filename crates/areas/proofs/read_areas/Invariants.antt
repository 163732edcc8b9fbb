use lib.ListN.{get_or}
use lib.Ieee.{nan}
use Rattle.loops.proofs.FillLaws.{Filling}
use Rattle.areas.specs.Words.{area_in}
use Rattle.areas.proofs.read_areas.Given as goal

abbrev pub invariant-loop-word : goal.invariant-loop-word
invariant-loop-word l = Filling (λ c. area_in (get_or l.initial.words c nan)) l.word-index l.initial.words l.words
