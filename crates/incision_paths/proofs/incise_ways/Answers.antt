use Rattle.incision_paths.proofs.WalkLaws.{upto_none, upto_done}
use Rattle.incision_paths.proofs.incise_ways.Goals as goal

pub loop-i-init : goal.loop-i-init
loop-i-init c = upto_none c.requires.ways.network c.requires.worded c.requires.ways.network.long

pub returns : goal.returns
returns c = let a = c.args in upto_done a.by a.hmap.now a.recv.now a.words.now c.loop-i.invariant c.requires.ways.heights c.loop-i-test.false
