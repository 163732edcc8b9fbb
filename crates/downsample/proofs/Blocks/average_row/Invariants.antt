use Rattle.loops.proofs.FillLaws.{Filling}
use Rattle.resample.specs.Blocks.{average_of}
use Rattle.downsample.proofs.Blocks.average_row.Given as goal

abbrev pub invariant-loop-bx : goal.invariant-loop-bx
invariant-loop-bx l = let b = l.self in Filling (λ x. average_of b.src.now b.columns.side b.rows.side b.columns.reduced b.rows.reduced x l.by) l.bx l.initial.row l.row
