use lib.ListN.{get_or}
use lib.Ieee.{nan}
use Rattle.loops.proofs.FillLaws.{Filling}
use Rattle.grid.proofs.copy_heights.Given as goal

abbrev pub invariant-loop-cell : goal.invariant-loop-cell
invariant-loop-cell l = Filling (λ k. get_or l.hmap k nan) l.cell l.initial.out l.out
