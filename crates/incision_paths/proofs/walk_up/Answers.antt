use mathlib.Core.Path.{sym, ◌∙◌}
use native.Mathlib.Omega.{arith}
use Rattle.incision_paths.proofs.MarkLaws.{marked_word, free_passing}
use Rattle.incision_paths.proofs.WalkLaws.{ascent_at, ascent_fresh, ascent_plain, ascent_small, settled_last, settled_more}
use Rattle.incision_paths.proofs.walk_up.Goals as goal

pub offset_bounds-out-j : goal.offset_bounds-out-j
offset_bounds-out-j c = omega (arith, ascent_at c.loop-steps.invariant, c.requires.ways.network.steps.few)

pub bounds-out-j : goal.bounds-out-j
bounds-out-j c = omega (arith, ascent_at c.loop-steps.invariant, c.loop-steps.invariant.long)

pub offset_bounds-hmap-j : goal.offset_bounds-hmap-j
offset_bounds-hmap-j c = omega (arith, ascent_at c.loop-steps.invariant, c.requires.ways.network.steps.few)

pub bounds-hmap-j : goal.bounds-hmap-j
bounds-hmap-j c = omega (arith, ascent_at c.loop-steps.invariant, c.requires.ways.heights)

pub settle_cell-requires : goal.settle_cell-requires
settle_cell-requires c = let v = c.loop-steps.invariant in record {
  passing = free_passing v.marks c.requires.ways.network (ascent_at v) (ascent_fresh v);
  out_len = v.long ∙ sym v.marks.long;
}

pub mark_done-requires : goal.mark_done-requires
mark_done-requires c = let v = c.loop-steps.invariant in (omega (arith, ascent_at v, v.marks.long), marked_word v.marks _ (ascent_at v))

pub returns-then-steps-eq0 : goal.returns-then-steps-eq0
returns-then-steps-eq0 c = settled_last c.args.tables.now.by c.args.hmap.now c.requires.ways c.loop-steps.invariant c.settle_cell.ensures c.mark_done.ensures c.if-steps-eq0.true

pub float_to_bits-j : goal.float_to_bits-j
float_to_bits-j c = ascent_plain c.loop-steps.invariant c.requires.ways.network.steps.few (omega (arith, c.if-steps-eq0.false))

pub overflow_cast-j : goal.overflow_cast-j
overflow_cast-j c = omega (arith, ascent_small c.loop-steps.invariant c.requires.ways.network.steps.few (omega (arith, c.if-steps-eq0.false)))

pub loop-steps-preserved : goal.loop-steps-preserved
loop-steps-preserved c = settled_more c.args.tables.now.by c.args.hmap.now c.requires.ways c.loop-steps.invariant c.settle_cell.ensures c.mark_done.ensures (omega (arith, c.if-steps-eq0.false))
