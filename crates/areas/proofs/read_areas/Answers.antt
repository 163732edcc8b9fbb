use mathlib.Core.Path.{refl, sym, ap, subst}
use lib.Ieee.{nan}
use Rattle.loops.proofs.FillLaws.{filling_none, filling_next, filling_more, filling_done}
use Rattle.areas.specs.Words.{area_in, areas_in, Word}
use Rattle.areas.proofs.WordLaws.{word_plain, word_float}
use Rattle.areas.proofs.read_areas.Goals as goal

pub loop-word-init : goal.loop-word-init
loop-word-init c = filling_none

pub float_to_bits-word : goal.float_to_bits-word
float_to_bits-word c = word_plain (subst Word (sym (filling_next c.loop-word.invariant nan)) (c.requires _ c.loop-word-test.true))

pub int_to_float-word : goal.int_to_float-word
int_to_float-word c = word_float (subst Word (sym (filling_next c.loop-word.invariant nan)) (c.requires _ c.loop-word-test.true))

pub loop-word-preserved : goal.loop-word-preserved
loop-word-preserved c = filling_more c.loop-word.invariant (ap area_in (filling_next c.loop-word.invariant nan)) c.loop-word-test.true

pub returns : goal.returns
unfolding areas_in
returns c = filling_done c.loop-word.invariant _ refl c.loop-word-test.false
