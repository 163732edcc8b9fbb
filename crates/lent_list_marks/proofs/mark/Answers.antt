use Prim.Native.Nat.{◌%◌}
use native.Mathlib.Omega.{arith}
use Rattle.lent_list_marks.specs.Seen.{marking}
use Rattle.lent_list_marks.proofs.SeenLaws.{shifted_one}
use Rattle.lent_list_marks.proofs.mark.Goals as goal

pub returns : goal.returns
unfolding marking
returns c = rw (shifted_one (c.args.i % 64) (omega arith))
