use Rattle.std.proofs.lemmas.Result.{err_from_is_err_and}
use Rattle.std.specs.declared.result.Result.TheVariants.{Err}
use Prim.Native.Nat.{◌*◌}
use mathlib.Core.Path.{◌≡◌, refl, sym, ap, ◌∙◌}
use lib.ListN.{length}
use Rattle.answers.specs.Outcome.{gives, answer_of}
use Rattle.fluvial_erosion.specs.Along.{Drains}
use Rattle.fluvial_erosion.proofs.RefusalLaws.{decided, AcceptedIncision, Sized, accepted, accepted_sizes, accepted_drains, made_refused, made_incised, answer_done, answer_off}
use lib.Seq.{length-take-le}
use Rattle.grid.proofs.SidesLaws.{range_fit}
use Rattle.fluvial_erosion.proofs.incise.Goals as goal
use Rattle.fluvial_erosion.proofs.incise.Goals.{In_ok-refusal}

-- the input is accepted
told : (c : In_ok-refusal) → let a = c.args in gives tt ≡ decided a.size.w a.size.h a.hmap.now a.params a.recv.now a.order.now (length a.out.now) (length a.area.now)
told c = ap answer_of (sym c.in_ok-refusal.was) ∙ c.refusal.ensures

accepts : (c : In_ok-refusal) → let a = c.args in AcceptedIncision a.size.w a.size.h a.hmap.now a.params a.recv.now a.order.now (length a.out.now) (length a.area.now)
accepts c = let a = c.args in accepted a.size.w a.size.h a.hmap.now a.params a.recv.now a.order.now (length a.out.now) (length a.area.now) (told c)

sizes : (c : In_ok-refusal) → let a = c.args in Sized (a.size.w * a.size.h) (length a.hmap.now) (length a.recv.now) (length a.order.now) (length a.out.now) (length a.area.now)
sizes c = let a = c.args in accepted_sizes a.size.w a.size.h a.hmap.now a.params a.recv.now a.order.now (length a.out.now) (length a.area.now) (accepts c)

drains : (c : In_ok-refusal) → let a = c.args in Drains a.size.w a.size.h a.recv.now a.order.now
drains c = let a = c.args in accepted_drains a.size.w a.size.h a.hmap.now a.params a.recv.now a.order.now (length a.out.now) (length a.area.now) (accepts c)

pub returns-in_err-refusal : goal.returns-in_err-refusal
returns-in_err-refusal c =
    let a = c.args in
    let p = err_from_is_err_and c.from_residual.result c.from_residual.ensures.1 in
    rw (p.1, p.2)
    (made_refused a.size.w a.size.h a.hmap.now a.params a.recv.now a.order.now a.out.now a.area.now (Err c.in_err-refusal.field-0.0) _ (ap answer_of (sym c.in_err-refusal.was) ∙ c.refusal.ensures) refl)

pub overflow_mul-n : goal.overflow_mul-n
overflow_mul-n c = range_fit (drains (goal.at.overflow_mul-n c).In_ok-refusal).sides

pub slice_bounds-incise_into-end : goal.slice_bounds-incise_into-end
slice_bounds-incise_into-end c = (sizes (goal.at.slice_bounds-incise_into-end c).In_ok-refusal).areas

pub slice_bounds-incise_into-end-2 : goal.slice_bounds-incise_into-end-2
slice_bounds-incise_into-end-2 c = sym (length-take-le _ _ (sizes (goal.at.slice_bounds-incise_into-end-2 c).In_ok-refusal).areas)

pub incise_into-requires : goal.incise_into-requires
incise_into-requires c = record { drains = drains (goal.at.incise_into-requires c).In_ok-refusal; lengths = record { heights = (sizes (goal.at.incise_into-requires c).In_ok-refusal).map; result = (sizes (goal.at.incise_into-requires c).In_ok-refusal).out; areas = length-take-le _ _ (sizes (goal.at.incise_into-requires c).In_ok-refusal).areas } }

pub returns-then-all_finite : goal.returns-then-all_finite
returns-then-all_finite c = let a = c.args in made_incised a.size.w a.size.h a.hmap.now a.params a.recv.now a.order.now a.out.now a.area.now (told (goal.at.returns-then-all_finite c).In_ok-refusal) (answer_done _ c.all_finite.ensures c.if-all_finite.true) c.square_distances-ds.ensures c.incise_into.ensures refl

pub returns : goal.returns
returns c = let a = c.args in made_incised a.size.w a.size.h a.hmap.now a.params a.recv.now a.order.now a.out.now a.area.now (told (goal.at.returns c).In_ok-refusal) (answer_off _ c.all_finite.ensures c.if-all_finite.false) c.square_distances-ds.ensures c.incise_into.ensures refl
