use Prim.Native.Nat.{ℕ, suc, ◌-◌, ◌≤◌, ◌<◌}
use native.Mathlib.Omega.{arith}
use mathlib.Core.Path.{◌≡◌, sym, ap, ◌∙◌}
use mathlib.Core.List.{List}
use lib.ListN.{length, get_or, drop}
use lib.Ieee.{Float}
use lib.Seq.{drop-cons, drop-length}
use Rattle.areas.specs.Words.{passed_on, passed_back}
use Rattle.areas.proofs.WordLaws.{ahead_at}
use Rattle.areas.proofs.pass_back.Goals as goal

back_none : (recv cells : List ℕ) (words : List Float) → words ≡ passed_back recv (drop (length cells) cells) words
unfolding passed_back
back_none recv cells words = ap (λ (l : List ℕ). passed_back recv l words) (sym (drop-length cells))

back_more : (recv cells : List ℕ) (old words : List Float) {j r : ℕ} {next : List Float} → 0 < j → j ≤ length cells → words ≡ passed_back recv (drop j cells) old → r ≡ get_or recv (get_or cells (j - 1) 0) 0
    → next ≡ passed_on (get_or cells (j - 1) 0) r words → next ≡ passed_back recv (drop (j - 1) cells) old
unfolding passed_back
back_more recv cells old words {j} some within held e q =
    let c : ℕ = get_or cells (j - 1) 0 in
    let back : suc (j - 1) ≡ j = omega arith in
    q ∙ ap (λ (x : ℕ). passed_on c x words) e
    ∙ ap (passed_on c (get_or recv c 0)) (held ∙ ap (λ (i : ℕ). passed_back recv (drop i cells) old) (sym back))
    ∙ ap (λ (l : List ℕ). passed_back recv l old) (sym (drop-cons cells (j - 1) 0 (omega arith)))

pub loop-j-init : goal.loop-j-init
loop-j-init c = back_none c.args.recv.now c.args.cells.now c.args.words.now

pub loop-j-preserved : goal.loop-j-preserved
loop-j-preserved c =
    back_more c.args.recv.now c.args.cells.now c.args.words.now c.loop-j.words c.loop-j-test.true c.loop-j.auto.j c.loop-j.invariant (ahead_at c.requires.ahead (c.loop-j.j - 1) (omega (arith, c.loop-j-test.true, c.loop-j.auto.j)))
    c.pass_on.ensures
