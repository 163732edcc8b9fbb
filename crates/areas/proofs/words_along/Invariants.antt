use Prim.Native.Nat.{ℕ, ◌<◌}
use mathlib.Core.Path.{◌≡◌}
use lib.ListN.{length, get_or}
use Rattle.areas.proofs.WordLaws.{Summing}
use Rattle.areas.proofs.words_along.Given as goal

abbrev pub invariant-loop-block : goal.invariant-loop-block
invariant-loop-block l =
    let rest = l.block-iterator.rest.now in
    Summing l.width l.recv l.order (length rest) l.words × ((i : ℕ) → i < length rest → get_or rest i 0 ≡ get_or l.order i 0) × (l.block-iterator.size ≡ 256)
