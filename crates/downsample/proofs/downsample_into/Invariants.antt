use Prim.Native.Nat.{◌*◌}
use Rattle.loops.proofs.FillLaws.{Filling}
use Rattle.resample.proofs.FillLaws.{average_at}
use Rattle.downsample.proofs.downsample_into.Given as goal

abbrev pub invariant-loop-y : goal.invariant-loop-y
invariant-loop-y l = let s = l.fn.size in let d = l.fn.dsize in Filling (average_at l.src s.w s.h d.w d.h) (l.y * l.w) l.initial.dst l.dst
