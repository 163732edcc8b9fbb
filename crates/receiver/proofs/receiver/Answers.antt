use Prim.Native.Nat.{◌+◌, ◌*◌, ◌<◌}
use mathlib.Core.Path.{◌∙◌}
use mathlib.Core.Logic.{inr}
use Rattle.grid.specs.Sides.{cell_of}
use Rattle.grid.specs.Directions.{Adjacent}
use Rattle.grid.proofs.SidesLaws.{cell_lt}
use Rattle.grid.proofs.NeighbourLaws.{entry_neighbour, neighbour_cell}
use Rattle.receiver.proofs.ReceiverLaws.{leading_none, leading_more, leading_done, received_own}
use Rattle.receiver.proofs.receiver.Goals as goal
use Rattle.receiver.proofs.receiver.Goals.{Start, Else-found-c}

inside : (c : Start) → cell_of c.args.spill.now.size.w c.args.x c.args.y < c.args.spill.now.size.w * c.args.spill.now.size.h
inside c = let p = c.requires.place in cell_lt _ _ _ p.column _ p.row

near : (c : Else-found-c) → Adjacent c.args.spill.now.size.w c.args.spill.now.size.h (cell_of c.args.spill.now.size.w c.args.x c.args.y) c.args.f
near c = c.requires.adjacent c.if-found-c.false

pub returns-then-found-c : goal.returns-then-found-c
returns-then-found-c c = received_own _ _ _ _ _ _ c.if-found-c.true (inside (goal.at.returns-then-found-c c).Start)

pub loop-d-init : goal.loop-d-init
loop-d-init c = leading_none _ _ _ _ _ _ (inside (goal.at.loop-d-init c).Start) (inr (near (goal.at.loop-d-init c).Else-found-c)) _ c.receiver_distance.ensures

pub loop-d-preserved : goal.loop-d-preserved
loop-d-preserved c = leading_more _ _ _ _ _ _ _ _ _ _ c.loop-d.invariant (entry_neighbour _ _ _ _ (c.loop-d.d + 1) c.neighbour-m.ensures ∙ neighbour_cell _ _ _ _ _ c.requires.place.column) c.compare_toward-best.ensures

pub returns : goal.returns
returns c = leading_done _ _ _ _ _ _ _ _ c.if-found-c.false c.loop-d.auto.d-end c.loop-d-test.false c.loop-d.invariant
