use Rattle.flood_start.specs.Slices.{row_by}
use Rattle.flood_start.proofs.StartLaws.{mark_at}
use Rattle.flood_start.proofs.RowLaws.{row_more}
use Rattle.grid.specs.Sides.{cell_of}
use Prim.Native.Nat.{◌*◌, ◌<◌}
use native.Mathlib.Omega.{arith}
use mathlib.Core.Path.{refl, sym}
use lib.ListN.{length-set}
use Rattle.grid.proofs.SidesLaws.{cell_lt}
use Rattle.loops.proofs.TurnLaws.{turns_none}
use Rattle.loops.proofs.LoopLaws.{at_end}
use Rattle.flood_start.proofs.mark_row.Goals as goal
use Rattle.flood_start.proofs.mark_row.Goals.{In-loop-x}

inside : (c : In-loop-x) → cell_of c.args.g.w c.loop-x.x c.args.y < c.args.g.w * c.args.g.h
inside c = cell_lt _ _ _ c.loop-x-test.true _ c.requires.y_lt_h

pub loop-x-init : goal.loop-x-init
loop-x-init c = (omega arith, refl, sym (turns_none _ _))

pub loop-x-preserved : goal.loop-x-preserved
loop-x-preserved c = let a = c.args in
    (omega arith, simp length-set c.loop-x.invariant.1, row_more a.g.w (mark_at a.g.w a.g.h a.h.now a.land) a.y _ _ _ _ c.loop-x.invariant.2 c.start_status.ensures)

pub returns : goal.returns
returns c = let a = c.args in
    at_end (λ x. row_by a.g.w (mark_at a.g.w a.g.h a.h.now a.land) a.y x a.status.now) c.loop-x.invariant.2 (omega arith) c.loop-x-test.false
