use Rattle.areas.specs.Words.{areas_in}
use Rattle.incision_cell.specs.Cut.{cut_down}
use Rattle.fluvial_erosion.proofs.CellLaws.{Incising}
use Rattle.fluvial_erosion.proofs.incise_listed.Given as goal

abbrev pub invariant-loop-c : goal.invariant-loop-c
invariant-loop-c l = Incising (cut_down l.fn.by (areas_in l.words) l.recv) l.recv l.order l.initial.out l.c-index l.out
