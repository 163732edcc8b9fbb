use Rattle.flood_start.proofs.StartLaws.{marks}
use Prim.Native.Nat.{◌*◌, ◌≤◌}
use mathlib.Core.Path.{◌≡◌}
use lib.ListN.{length}
use Rattle.loops.proofs.TableLaws.{filled}
use Rattle.flood_start.proofs.mark_base.Given as goal

abbrev pub invariant-loop-y : goal.invariant-loop-y
invariant-loop-y l = (l.y ≤ l.g.h) × (length l.status ≡ length l.initial.status) × (l.status ≡ filled (marks l.g.w l.g.h l.h l.land) (l.y * l.g.w) l.initial.status)
