use Prim.Native.Nat.{◌+◌, ◌*◌, ◌/◌, ◌%◌}
use lib.ListN.{replicate}
use Rattle.loops.proofs.FillLaws.{Filling}
use Rattle.receiver_steps.proofs.Steps.new.Given as goal

abbrev pub invariant-loop-s : goal.invariant-loop-s
invariant-loop-s l = Filling (λ j. j % 4 + j / 4 * l.width) l.s (replicate 16 0) l.offset-items
