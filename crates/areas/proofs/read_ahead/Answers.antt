use native.Mathlib.Omega.{arith}
use mathlib.Core.Path.{◌∙◌}
use Rattle.areas.proofs.WordLaws.{word_plain, entry_at, ahead_more}
use Rattle.areas.proofs.read_ahead.Goals as goal

pub float_to_bits-word : goal.float_to_bits-word
float_to_bits-word c =
    let q = (entry_at c.requires.stepped_network c.requires.worded c.requires.along c.loop-j.j c.loop-j-test.true).passing in
    word_plain (q.all _ q.cell)

pub leads_to-requires-clause-past : goal.leads_to-requires-clause-past
leads_to-requires-clause-past c = (entry_at c.requires.stepped_network c.requires.worded c.requires.along c.loop-j.j c.loop-j-test.true).passing.past

pub loop-j-preserved : goal.loop-j-preserved
loop-j-preserved c = ahead_more c.loop-j.invariant (c.leads_to.ensures ∙ (entry_at c.requires.stepped_network c.requires.worded c.requires.along c.loop-j.j c.loop-j-test.true).leads_to) (omega (arith, c.loop-j.auto.below, c.loop-j-test.true, c.requires.room))
