use Rattle.loops.proofs.FillLaws.{Filling}
use Rattle.resample.specs.Blocks.{first_in_block}
use Rattle.downsample.proofs.Firsts.new.Given as goal

abbrev pub invariant-loop-b : goal.invariant-loop-b
invariant-loop-b l = Filling (first_in_block l.side l.reduced) l.b l.initial.at l.at
