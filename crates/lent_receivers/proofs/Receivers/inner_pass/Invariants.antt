use Rattle.std.proofs.Common.{◌-◌, true}
use Rattle.loops.proofs.LoopLaws.{Turning}
use Rattle.lent_receivers.proofs.RowLaws.{passing}
use Rattle.lent_receivers.proofs.Receivers.inner_pass.Given as goal

abbrev pub invariant-loop-i : goal.invariant-loop-i
invariant-loop-i l = Turning (passing l.self.size.w l.self.recv.now l.y) (l.self.size.w - 2) l.i true l.good
