use native.Mathlib.Omega.{arith}
use mathlib.Core.Path.{sym, ◌∙◌}
use lib.ListN.{get_or}
use lib.Ieee.{nan}
use Rattle.areas.proofs.WordLaws.{worded_passing}
use Rattle.incision_cell.proofs.CutLaws.{settled_cell}
use Rattle.fluvial_erosion.proofs.CellLaws.{incising_none, incising_more, incising_done}
use Rattle.fluvial_erosion.proofs.incise_listed.Goals as goal

pub new-tables-requires : goal.new-tables-requires
new-tables-requires c = c.requires.stepped_network.steps.wide

pub loop-c-init : goal.loop-c-init
loop-c-init c = incising_none

pub bounds-out-c : goal.bounds-out-c
bounds-out-c c = omega (arith, c.requires.along.entries _ c.loop-c-test.true, c.loop-c.invariant.long)

pub settle_cell-requires : goal.settle_cell-requires
settle_cell-requires c = let s = c.loop-c.invariant in rw c.new-tables.ensures (record {
  passing = worded_passing c.requires.stepped_network c.requires.worded _ (omega (arith, c.requires.along.entries _ c.loop-c-test.true, c.requires.stepped_network.long));
  out_len = s.long ∙ c.requires.stepped_network.long ∙ sym c.requires.worded.long;
})

pub loop-c-preserved : goal.loop-c-preserved
loop-c-preserved c = let a = c.args in
    let s = c.loop-c.invariant in
    let l = c.loop-c-test.true in
    let out = c.loop-c.out in
    incising_more s l
    (settled_cell a.by c.requires.stepped_network c.requires.worded _ (omega (arith, c.requires.along.entries _ l, c.requires.stepped_network.long)) out (get_or out (get_or a.order.now c.loop-c.c-index 0) nan) (rw c.new-tables.ensures at c.settle_cell.ensures))

pub shape_of-out : goal.shape_of-out
shape_of-out c = c.loop-c.invariant.long

pub returns : goal.returns
returns c = incising_done c.loop-c.invariant c.loop-c-test.false
