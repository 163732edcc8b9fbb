use Rattle.stream_words.proofs.WordLaws.{into}
use Rattle.stream_words.proofs.words_into.Goals as goal

pub returns-clause-out_after : goal.returns-clause-out_after
returns-clause-out_after g c = let t = g.T.Word in into t.word_of t.past c.args.v.now c.args.out.now c.min-n.ensures c.put_words.ensures
