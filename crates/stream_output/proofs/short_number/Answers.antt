use Rattle.stream_output.proofs.OutputLaws.{number_fits}
use Rattle.stream_output.proofs.short_number.Goals as goal

pub overflow_cast-result : goal.overflow_cast-result
overflow_cast-result c = number_fits c.args.a _ c.answer_number.ensures
