use native.Mathlib.Omega.{arith}
use lib.Ieee.{nan}
use mathlib.Core.Path.{refl}
use Rattle.loops.proofs.FillLaws.{filling_none, filling_more, copied}
use Rattle.grid.proofs.copy_heights.Goals as goal

pub loop-cell-init : goal.loop-cell-init
loop-cell-init c = filling_none

pub loop-cell-preserved : goal.loop-cell-preserved
loop-cell-preserved c = filling_more c.loop-cell.invariant refl c.loop-cell-test.true

pub returns : goal.returns
returns c = copied nan c.loop-cell.invariant c.requires (omega arith)
