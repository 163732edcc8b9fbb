use Rattle.incision_cell.specs.Cut.{cut_down}
use Rattle.fluvial_erosion.proofs.CellLaws.{Incising}
use Rattle.fluvial_erosion.proofs.incise_plain.Given as goal

abbrev pub invariant-loop-c : goal.invariant-loop-c
invariant-loop-c l = Incising (cut_down l.by l.area l.recv) l.recv l.order l.initial.out l.c-index l.out
