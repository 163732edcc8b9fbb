use Rattle.stream_bytes.proofs.PutLaws.{Putting}
use lib.ListN.{length}
use Rattle.stream_words.specs.Words.{word_in, word_bytes}
use Rattle.stream_words.proofs.put_words.Given as goal

abbrev pub invariant-loop-i : goal.invariant-loop-i
invariant-loop-i g l = let t = g.T.Word in Putting l.initial.out l.at (length l.v) (λ k. word_bytes k (word_in t.word_of t.past l.v)) l.i l.out
