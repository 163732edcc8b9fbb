use lib.Ieee.{binary32, of_bits}
use Rattle.talus.specs.Talus.{shed_step}
use Rattle.talus.proofs.StepLaws.{Around}
use Rattle.talus.proofs.shed_around.Given as goal

abbrev pub invariant-loop-d : goal.invariant-loop-d
invariant-loop-d g l = Around (shed_step l.cell.map.size.w l.cell.map.size.h l.slide.thresholds l.cell.map.heights.now l.cell.c) (record { total = of_bits binary32 0; greatest = of_bits binary32 0 }) l.d l.s
