use mathlib.Core.Path.{◌≡◌}
use lib.ListN.{length}
use Rattle.talus.specs.Talus.{gain_step}
use Rattle.talus.proofs.StepLaws.{Around}
use Rattle.talus.proofs.gain_around.Given as goal

abbrev pub invariant-loop-d : goal.invariant-loop-d
invariant-loop-d g l = Around (gain_step l.cell.map.size.w l.cell.map.size.h l.slide.thresholds l.cell.map.heights.now l.cell.c l.moved l.total) l.initial.out l.d l.out × (length l.out ≡ length l.initial.out)
