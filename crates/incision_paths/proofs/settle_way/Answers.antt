use mathlib.Core.Path.{sym, ◌∙◌}
use Rattle.incision_paths.proofs.WalkLaws.{turned, upto_kept, ways_still}
use Rattle.incision_paths.proofs.settle_way.Goals as goal

pub returns-then-is_done : goal.returns-then-is_done
returns-then-is_done c = upto_kept c.requires.upto (sym c.is_done.ensures ∙ c.if-is_done.true)

pub walk_up-requires : goal.walk_up-requires
walk_up-requires c = record { ways = ways_still c.requires.ways (c.walk_down-stop.ensures.walk.long ∙ c.requires.ways.network.long); ascent = turned c.requires.ways.ordered c.requires.upto c.walk_down-stop.ensures }
