use mathlib.Core.Path.{sym, ◌∙◌}
use native.Mathlib.Omega.{arith}
use Rattle.floats.proofs.BitsLaws.{no_nan_pattern}
use Rattle.incision_paths.proofs.MarkLaws.{free_leads, free_passing, free_receiver}
use Rattle.incision_paths.proofs.WalkLaws.{descent_none, descent_at, descent_few, descent_fresh, next_inside, descent_more, descent_ends}
use Rattle.incision_paths.proofs.walk_down.Goals as goal

pub loop-i-init : goal.loop-i-init
loop-i-init c = descent_none c.requires.i_in_bounds c.requires.i_to_do

pub led_to-r-requires : goal.led_to-r-requires
led_to-r-requires c = let v = c.loop-i.invariant in free_passing c.requires.marked c.requires.stepped_network (descent_at v) (descent_fresh v)

pub ends_at-requires : goal.ends_at-requires
ends_at-requires c = let v = c.loop-i.invariant in free_receiver c.requires.marked c.requires.stepped_network (descent_at v) (descent_fresh v) c.led_to-r.ensures

pub returns-then-ends_at : goal.returns-then-ends_at
returns-then-ends_at c =
    let v = c.loop-i.invariant in
    descent_ends c.requires.ordered v (c.led_to-r.ensures ∙ free_leads c.requires.marked c.requires.stepped_network (descent_at v) (descent_fresh v)) (sym c.ends_at.ensures ∙ c.if-ends_at.true)

pub overflow_cast-out : goal.overflow_cast-out
overflow_cast-out c = omega (arith, descent_at c.loop-i.invariant, c.requires.stepped_network.steps.few)

pub float_from_bits-out : goal.float_from_bits-out
float_from_bits-out c = no_nan_pattern _ (omega (arith, descent_at c.loop-i.invariant, c.requires.stepped_network.steps.few))

pub offset_bounds-out-r : goal.offset_bounds-out-r
offset_bounds-out-r c =
    let v = c.loop-i.invariant in
    omega (arith, next_inside c.requires.ordered v (c.led_to-r.ensures ∙ free_leads c.requires.marked c.requires.stepped_network (descent_at v) (descent_fresh v)), c.requires.stepped_network.steps.few)

pub bounds-out-r : goal.bounds-out-r
bounds-out-r c =
    let v = c.loop-i.invariant in
    omega (arith, next_inside c.requires.ordered v (c.led_to-r.ensures ∙ free_leads c.requires.marked c.requires.stepped_network (descent_at v) (descent_fresh v)), c.requires.stepped_network.long, v.long)

pub overflow_add-count : goal.overflow_add-count
overflow_add-count c = omega (arith, descent_few c.requires.ordered c.loop-i.invariant c.requires.i_in_bounds, c.requires.stepped_network.steps.few)

pub loop-i-smaller : goal.loop-i-smaller
loop-i-smaller c = omega (arith, descent_few c.requires.ordered c.loop-i.invariant c.requires.i_in_bounds)

pub loop-i-preserved : goal.loop-i-preserved
loop-i-preserved c =
    let v = c.loop-i.invariant in
    descent_more c.requires.ordered v (c.led_to-r.ensures ∙ free_leads c.requires.marked c.requires.stepped_network (descent_at v) (descent_fresh v)) (sym c.ends_at.ensures ∙ c.if-ends_at.false) c.requires.stepped_network.long
