use Prim.Native.Nat.{◌-◌}
use Rattle.grid.proofs.WalkLaws.{Sought}
use Rattle.stream_rows.specs.Rows.{heights_at}
use Rattle.stream_rows.proofs.Rows.first_bad_height.Given as goal

abbrev pub invariant-loop-x : goal.invariant-loop-x
invariant-loop-x l = Sought l.w (heights_at l.self.bytes.now l.self.at l.w l.h) l.x l.y

abbrev pub invariant-rows : goal.invariant-rows
invariant-rows l = Sought l.w (heights_at l.self.bytes.now l.self.at l.w l.h) 0 l.y

abbrev pub decreases-rows : goal.decreases-rows
decreases-rows l = l.h - l.y
