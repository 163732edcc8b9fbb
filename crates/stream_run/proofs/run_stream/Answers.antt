use Rattle.stream_run.proofs.AskedLaws.{loaded_accepted}
use Rattle.stream_run.specs.StreamRun.{asked_run}
use Rattle.run_parts.specs.Ending.{ran_to}
use lib.Ieee.{Float}
use mathlib.Core.List.{List}
use mathlib.Core.Path.{ap, ◌∙◌}
use Rattle.stream_run.proofs.run_stream.Goals as goal

pub run_asked-requires : goal.run_asked-requires
run_asked-requires c = loaded_accepted c.args.bytes.now c.args.head c.requires.accepted_stream c.load.ensures

pub returns : goal.returns
returns c = c.run_asked.ensures ∙ ap (λ (m : List Float). ran_to (asked_run c.args.head m)) c.load.ensures
