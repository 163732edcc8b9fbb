use native.Mathlib.Omega.{arith}
use Rattle.floats.proofs.BitsLaws.{no_nan_pattern}
use Rattle.areas.proofs.WordLaws.{word_small}
use Rattle.incision_paths.proofs.mark_done.Goals as goal

pub overflow_add-words : goal.overflow_add-words
overflow_add-words c = omega (arith, word_small c.requires.1)

pub float_from_bits-words : goal.float_from_bits-words
float_from_bits-words c = no_nan_pattern _ (omega (arith, word_small c.requires.1))
