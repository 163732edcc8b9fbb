use native.Mathlib.Omega.{arith}
use Rattle.areas.proofs.WordLaws.{word_small}
use Rattle.incision_cell.proofs.IncisionTables.settle_cell.Goals as goal

pub overflow_cast-word : goal.overflow_cast-word
overflow_cast-word c = omega (arith, word_small (c.requires.passing.all _ c.requires.passing.cell))

pub of-requires : goal.of-requires
of-requires c = omega (arith, word_small (c.requires.passing.all _ c.requires.passing.cell))
