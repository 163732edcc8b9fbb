use mathlib.Core.Path.{refl, ap, ◌∙◌}
use Rattle.std.proofs.lemmas.List.{get_or_read}
use Rattle.stream_words.proofs.WordLaws.{words_none, words_more}
use Rattle.stream_words.proofs.put_words.Goals as goal

pub loop-i-init : goal.loop-i-init
loop-i-init g c = words_none _

pub loop-i-preserved : goal.loop-i-preserved
loop-i-preserved g c = let t = g.T.Word in
    let read = get_or_read c.args.v.now c.loop-i.i _ c.loop-i-test.true c.index-v-i.is t.past in
    words_more _ c.loop-i.invariant c.loop-i-test.true (c.to_word.ensures ∙ ap t.word_of read) refl c.put_u32.ensures
