use Rattle.flood_start.specs.Slices.{row_by}
use Rattle.flood_start.proofs.StartLaws.{mark_at}
use Prim.Native.Nat.{◌≤◌}
use mathlib.Core.Path.{◌≡◌}
use lib.ListN.{length}
use Rattle.flood_start.proofs.mark_row.Given as goal

abbrev pub invariant-loop-x : goal.invariant-loop-x
invariant-loop-x l = (l.x ≤ l.g.w) × (length l.status ≡ length l.initial.status) × (l.status ≡ row_by l.g.w (mark_at l.g.w l.g.h l.h l.land) l.y l.x l.initial.status)
