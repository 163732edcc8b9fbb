use mathlib.Core.Path.{ap, ◌∙◌}
use native.Mathlib.Omega.{arith}
use Rattle.loops.proofs.FillLaws.{filling_none, filling_more}
use Rattle.stream_words.proofs.WordLaws.{word_past}
use Rattle.stream_words.proofs.words_from.Goals as goal

pub loop-i-init : goal.loop-i-init
loop-i-init g c = filling_none

pub loop-i-preserved : goal.loop-i-preserved
loop-i-preserved g c =
    let e = c.word_at.ensures ∙ word_past c.args.bytes.now c.loop-i.i (omega arith) c.saturating_mul.ensures in
    filling_more c.loop-i.invariant (c.from_word.ensures ∙ ap g.T.Word.of_word e) c.loop-i-test.true
