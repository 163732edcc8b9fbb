use Rattle.grid.proofs.HeightsLaws.{bad_height, bad_height_is, no_bad_height}
use Prim.Native.Nat.{◌*◌}
use mathlib.Core.Path.{◌≡◌, sym, ap, ◌∙◌}
use mathlib.Core.Bool.{false, not}
use lib.Dec.{ltb}
use borrow.Author.Tests.{lt-ltb, le-ltb}
use lib.ListN.{length}
use Rattle.grid.specs.Sides.{bad_sides}
use Rattle.grid.specs.Heights.{all_finite}
use Rattle.grid.proofs.SidesLaws.{sides_fit, good_sides}
use Rattle.lent_receivers.specs.Receivers.{first_bad_receiver}
use Rattle.fluvial_erosion.specs.Incise.{bad_incise_lengths, bad_incision}
use Rattle.loops.proofs.PlaceLaws.{place_some, place_none}
use Rattle.fluvial_erosion.proofs.RefusalLaws.{sized, network_of, near_network, height_found, height_none, ends_side, ends_length, ends_setting, ends_height, ends_receiver, ends_entry, ends_done}
use Rattle.fluvial_erosion.proofs.refusal.Goals as goal
use Rattle.fluvial_erosion.proofs.refusal.Goals.{Else-bad_incision, Else-bad_lengths, Else-bad_sides, In_default, In_default-first_bad_receiver}

-- what each test that let pass says
sides : (c : Else-bad_sides) → bad_sides c.args.size.w c.args.size.h ≡ false
sides c = sym c.bad_sides.ensures ∙ c.if-bad_sides.false

lengths : (c : Else-bad_lengths) → let a = c.args in bad_incise_lengths (a.size.w * a.size.h) (length a.hmap.now) (length a.recv.now) (length a.order.now) a.res a.scratch ≡ false
lengths c = sym c.bad_lengths.ensures ∙ c.if-bad_lengths.false

setting : (c : Else-bad_incision) → bad_incision c.args.params ≡ false
setting c = sym c.bad_incision.ensures ∙ c.if-bad_incision.false

heights : (c : In_default) → not (all_finite c.args.hmap.now) ≡ false
heights c = ap not (no_bad_height _ c.first_not_finite.ensures c.in_default.is)

receivers : (c : In_default-first_bad_receiver) → let a = c.args in ltb (first_bad_receiver a.size.w a.size.h a.recv.now) (a.size.w * a.size.h) ≡ false
receivers c = le-ltb _ _ (place_none (sym c.first_bad_receiver.ensures ∙ c.in_default-first_bad_receiver.is))

pub returns-then-bad_sides : goal.returns-then-bad_sides
returns-then-bad_sides c = let a = c.args in ends_side a.size.w a.size.h a.hmap.now a.params a.recv.now a.order.now a.res a.scratch c.bad_sides.ensures c.if-bad_sides.true

pub overflow_mul-n : goal.overflow_mul-n
overflow_mul-n c = sides_fit _ _ (sides (goal.at.overflow_mul-n c).Else-bad_sides)

pub returns-then-bad_lengths : goal.returns-then-bad_lengths
returns-then-bad_lengths c = let a = c.args in ends_length a.size.w a.size.h a.hmap.now a.params a.recv.now a.order.now a.res a.scratch (sides (goal.at.returns-then-bad_lengths c).Else-bad_sides) c.bad_lengths.ensures c.if-bad_lengths.true

pub returns-then-bad_incision : goal.returns-then-bad_incision
returns-then-bad_incision c = let a = c.args in ends_setting a.size.w a.size.h a.hmap.now a.params a.recv.now a.order.now a.res a.scratch (sides (goal.at.returns-then-bad_incision c).Else-bad_sides) (lengths (goal.at.returns-then-bad_incision c).Else-bad_lengths) c.bad_incision.ensures c.if-bad_incision.true

pub first_not_finite-requires : goal.first_not_finite-requires
first_not_finite-requires c = (sized _ _ _ _ _ _ (lengths (goal.at.first_not_finite-requires c).Else-bad_lengths)).map

pub returns-in-Some : goal.returns-in-Some
returns-in-Some c = let a = c.args in ends_height a.size.w a.size.h a.hmap.now a.params a.recv.now a.order.now a.res a.scratch (sides (goal.at.returns-in-Some c).Else-bad_sides) (lengths (goal.at.returns-in-Some c).Else-bad_lengths) (setting (goal.at.returns-in-Some c).Else-bad_incision) (ap not (bad_height _ c.first_not_finite.ensures c.in-Some.is)) (bad_height_is _ c.first_not_finite.ensures c.in-Some.is)

pub first_bad_receiver-requires : goal.first_bad_receiver-requires
first_bad_receiver-requires c = record { in_range = good_sides _ _ (sides (goal.at.first_bad_receiver-requires c).Else-bad_sides); recv_len = (sized _ _ _ _ _ _ (lengths (goal.at.first_bad_receiver-requires c).Else-bad_lengths)).receivers }

pub returns-in-Some-first_bad_receiver : goal.returns-in-Some-first_bad_receiver
returns-in-Some-first_bad_receiver c =
    let a = c.args in
    let at = place_some (sym c.first_bad_receiver.ensures ∙ c.in-Some-first_bad_receiver.is) in
    ends_receiver a.size.w a.size.h a.hmap.now a.params a.recv.now a.order.now a.res a.scratch (sides (goal.at.returns-in-Some-first_bad_receiver c).Else-bad_sides) (lengths (goal.at.returns-in-Some-first_bad_receiver c).Else-bad_lengths) (setting (goal.at.returns-in-Some-first_bad_receiver c).Else-bad_incision) (heights (goal.at.returns-in-Some-first_bad_receiver c).In_default) (lt-ltb _ _ at.1) at.0

pub first_bad_entry-requires : goal.first_bad_entry-requires
first_bad_entry-requires c =
    let z = sized _ _ _ _ _ _ (lengths (goal.at.first_bad_entry-requires c).Else-bad_lengths) in
    record { list_lengths = network_of _ _ _ _ z.receivers z.entries (receivers (c)); within_overlap = near_network _ _ _ (good_sides _ _ (sides (goal.at.first_bad_entry-requires c).Else-bad_sides)) (receivers (c)) }

pub returns-in-Some-first_bad_entry : goal.returns-in-Some-first_bad_entry
returns-in-Some-first_bad_entry c =
    let a = c.args in
    let at = place_some (sym c.first_bad_entry.ensures ∙ c.in-Some-first_bad_entry.is) in
    ends_entry a.size.w a.size.h a.hmap.now a.params a.recv.now a.order.now a.res a.scratch (sides (goal.at.returns-in-Some-first_bad_entry c).Else-bad_sides) (lengths (goal.at.returns-in-Some-first_bad_entry c).Else-bad_lengths) (setting (goal.at.returns-in-Some-first_bad_entry c).Else-bad_incision) (heights (goal.at.returns-in-Some-first_bad_entry c).In_default) (receivers (goal.at.returns-in-Some-first_bad_entry c).In_default-first_bad_receiver) (lt-ltb _ _ at.1) at.0

pub returns : goal.returns
returns c = let a = c.args in ends_done a.size.w a.size.h a.hmap.now a.params a.recv.now a.order.now a.res a.scratch (record { sides = sides (goal.at.returns c).Else-bad_sides; lengths = lengths (goal.at.returns c).Else-bad_lengths; setting = setting (goal.at.returns c).Else-bad_incision; heights = heights (goal.at.returns c).In_default; receivers = receivers (goal.at.returns c).In_default-first_bad_receiver; entries = le-ltb _ _ (place_none (sym c.first_bad_entry.ensures ∙ c.in_default-first_bad_entry.is)) })
