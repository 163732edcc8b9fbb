use Prim.Native.Nat.{ℕ, ◌<◌}
use native.Mathlib.Omega.{arith}
use mathlib.Core.Path.{ap, ◌∙◌}
use mathlib.Core.Bool.{not}
use lib.Dec.{eqb}
use lib.ListN.{length, get_or}
use lib.Ieee.{nan, binary32, of_bits, to_unsigned}
use Rattle.loops.proofs.FillLaws.{filling_none, filling_next, filling_more, filling_done}
use Rattle.receiver_steps.specs.Step.{step_of}
use Rattle.areas.specs.Words.{area_word, start_areas}
use Rattle.areas.proofs.WordLaws.{given_word, area_few, start_length, start_is, start_whole, with_areas}
use Rattle.areas.proofs.to_words.Goals as goal

pub loop-i-init : goal.loop-i-init
loop-i-init g c = filling_none

pub start_area-requires : goal.start_area-requires
start_area-requires g c = start_whole (not (eqb g.row.GIVEN 0)) c.args.words.now (filling_next c.loop-i.invariant nan) c.loop-i-test.true c.requires.whole_areas

pub word_with-requires : goal.word_with-requires
word_with-requires g c =
    let l : c.loop-i.i < length c.args.recv.now = omega (arith, c.loop-i-test.true, c.requires.stepped_network.long) in
    let area = start_whole (not (eqb g.row.GIVEN 0)) c.args.words.now (filling_next c.loop-i.invariant nan) c.loop-i-test.true c.requires.whole_areas in
    let p = given_word c.requires.stepped_network l (omega (arith, c.start_area.ensures, area_few area)) in
    record { near = p.0; columns = p.1; cells = p.2; few = p.3 }

pub loop-i-preserved : goal.loop-i-preserved
loop-i-preserved g c = let a = c.args in
    let s = c.loop-i in
    filling_more s.invariant
    (c.word_with.ensures
    ∙ ap (λ (n : ℕ). of_bits binary32 (area_word n (step_of a.width s.i (get_or a.recv.now s.i 0)))) (c.start_area.ensures ∙ ap (to_unsigned 32) (start_is (not (eqb g.row.GIVEN 0)) a.words.now (filling_next s.invariant nan) c.loop-i-test.true)))
    c.loop-i-test.true

pub returns : goal.returns
returns g c = let a = c.args in
    let given = not (eqb g.row.GIVEN 0) in
    with_areas (start_areas given a.words.now) c.requires.stepped_network c.requires.whole_areas (start_length given a.words.now ∙ c.requires.stepped_network.long)
    (filling_done c.loop-i.invariant _ c.requires.stepped_network.long (omega (arith, c.loop-i-test.false, c.requires.stepped_network.long)))
