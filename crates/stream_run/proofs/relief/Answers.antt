use Rattle.stream_run.proofs.ReliefLaws.{refusal_relief}
use Rattle.stream.specs.Stream.{read_of}
use mathlib.Core.Path.{sym, ap, ◌∙◌}
use Rattle.stream_run.proofs.relief.Goals as goal

pub write_run-requires : goal.write_run-requires
write_run-requires c = ap (read_of c.args.bytes.now) (sym c.in-Ok.is) ∙ c.read_stream-read.ensures

pub returns-in-Ok : goal.returns-in-Ok
returns-in-Ok c = c.write_run.ensures

pub returns-in-Err : goal.returns-in-Err
returns-in-Err c = refusal_relief c.args.bytes.now c.in-Err.why (sym c.read_stream-read.ensures ∙ ap (read_of c.args.bytes.now) c.in-Err.is) c.write_refusal.ensures
