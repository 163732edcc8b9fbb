use Prim.Native.Nat.{◌*◌}
use Rattle.loops.proofs.FillLaws.{Filling}
use Rattle.stream_words.specs.Words.{word_at}
use Rattle.stream_words.proofs.words_from.Given as goal

abbrev pub invariant-loop-i : goal.invariant-loop-i
invariant-loop-i g l = Filling (λ k. g.T.Word.of_word (word_at l.bytes (4 * k))) l.i l.initial.v l.v
