use Rattle.harness_runs.proofs.EndLaws.{end_word_lem}
use Rattle.harness_runs.proofs.ended.Goals as goal

pub returns : goal.returns
returns c = end_word_lem c.args.r.answer c.args.r.incisions c.args.r.passes c.args.r.questions
    c.answer_number.ensures c.answer_place.ensures
