use Prim.Native.Nat.{◌-◌}
use Rattle.grid.proofs.WalkLaws.{Sought}
use Rattle.grid.proofs.search_rows.Given as goal

abbrev pub invariant-loop-x : goal.invariant-loop-x
invariant-loop-x l = Sought l.w l.hs l.x l.y

abbrev pub invariant-rows : goal.invariant-rows
invariant-rows l = Sought l.w l.hs 0 l.y

abbrev pub decreases-rows : goal.decreases-rows
decreases-rows l = l.h - l.y
