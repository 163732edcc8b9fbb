use Rattle.std.proofs.Common.{arith}
use Rattle.loops.proofs.LoopLaws.{turning_none, turning_more, turning_done}
use Rattle.lent_receivers.specs.Receivers.{inner_pass}
use Rattle.lent_receivers.proofs.RowLaws.{InnerAt, inner_at, passing_is}
use Rattle.lent_receivers.proofs.Receivers.inner_pass.Goals as goal
use Rattle.lent_receivers.proofs.Receivers.inner_pass.Goals.{Start, In-loop-i}

-- the row's first inner cell, and that of a turn
first : (c : Start) → let a = c.args in InnerAt a.self.now.size.w a.self.now.size.h a.y 0
first c = inner_at c.args.self.now.in_range (c.requires.wide, c.requires.north, c.requires.south) 0 (omega (arith, c.requires))

here : (c : In-loop-i) → let a = c.args in InnerAt a.self.now.size.w a.self.now.size.h a.y c.loop-i.i
here c = inner_at c.args.self.now.in_range (c.requires.wide, c.requires.north, c.requires.south) c.loop-i.i c.loop-i-test.true

pub loop-i-init : goal.loop-i-init
loop-i-init c = turning_none

pub loop-i-preserved : goal.loop-i-preserved
loop-i-preserved c = turning_more c.loop-i.invariant c.loop-i-test.true (passing_is _ c.args.self.now.recv.now _ c.loop-i.good (here (goal.at.loop-i-preserved c).In-loop-i) c.is_near-good.ensures)

pub returns : goal.returns
unfolding inner_pass
returns c = turning_done c.loop-i.invariant c.loop-i-test.false
