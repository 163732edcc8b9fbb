use native.Mathlib.Omega.{arith}
use mathlib.Core.Path.{refl, ◌∙◌}
use Rattle.areas.proofs.SumLaws.{along_of}
use Rattle.areas.proofs.WordLaws.{summing_none, summing_worded, summing_back, summing_done, words_back, before_at, block_long, block_at, block_along}
use Rattle.areas.proofs.words_along.Goals as goal

pub loop-block-init : goal.loop-block-init
loop-block-init c =
    rw c.into_iter-block-iterator.ensures.into_iter_gives
    (rw c.rchunks-block-items.ensures.rest (summing_none c.requires.stepped_network c.args.words.now c.requires.stepped_network.long c.to_words.ensures, λ i l. refl, c.rchunks-block-items.ensures.size))

pub read_ahead-requires-clause-worded : goal.read_ahead-requires-clause-worded
read_ahead-requires-clause-worded c = rw c.new-steps.ensures (summing_worded c.requires.stepped_network c.loop-block.invariant.0)

pub read_ahead-requires-clause-along : goal.read_ahead-requires-clause-along
read_ahead-requires-clause-along c =
    let s = c.loop-block.invariant in
    rw s.0.long (block_along c.loop-block.block-iterator.rest.now c.args.order.now c.next.new.self.rest.now c.in-Some.block.now s.1 c.in-Some.ensures.steps.1.0 s.0.place (along_of c.requires.stepped_network.steps c.requires.work_list))

pub pass_back-requires-clause-along : goal.pass_back-requires-clause-along
pass_back-requires-clause-along c =
    let s = c.loop-block.invariant in
    rw s.0.long (block_along c.loop-block.block-iterator.rest.now c.args.order.now c.next.new.self.rest.now c.in-Some.block.now s.1 c.in-Some.ensures.steps.1.0 s.0.place (along_of c.requires.stepped_network.steps c.requires.work_list))

pub pass_back-requires-clause-words : goal.pass_back-requires-clause-words
pass_back-requires-clause-words c =
    let s = c.loop-block.invariant in
    let e = c.in-Some.ensures.steps.1.0 in
    let rest = c.loop-block.block-iterator.rest.now in
    let before = c.next.new.self.rest.now in
    let block = c.in-Some.block.now in
    words_back c.requires.stepped_network c.requires.work_list s.0 block _ (block_long rest c.args.order.now before block s.1 e) (block_at rest c.args.order.now before block s.1 e)

pub loop-block-preserved : goal.loop-block-preserved
loop-block-preserved c =
    let s = c.loop-block.invariant in
    let e = c.in-Some.ensures.steps.1.0 in
    let rest = c.loop-block.block-iterator.rest.now in
    let before = c.next.new.self.rest.now in
    let block = c.in-Some.block.now in (
      rw c.pass_back.ensures (summing_back c.requires.stepped_network c.requires.work_list s.0 block _ (block_long rest c.args.order.now before block s.1 e) (block_at rest c.args.order.now before block s.1 e)),
      before_at rest c.args.order.now before block s.1 e,
      c.in-Some.ensures.steps.0 ∙ s.2,
    )

pub returns : goal.returns
returns c = rw c.requires.stepped_network.long (summing_done c.requires.stepped_network c.loop-block.invariant.0 c.requires.work_list (omega (arith, c.in-None.ensures.steps.1.0)))
