use native.Mathlib.Omega.{arith}
use Rattle.floats.proofs.BitsLaws.{no_nan_pattern}
use Rattle.areas.proofs.WordLaws.{word_small}
use Rattle.areas.proofs.pass_on.Goals as goal

pub overflow_add-words : goal.overflow_add-words
overflow_add-words c = omega (arith, word_small (c.requires.words _ c.requires.c_in_bounds.0), word_small (c.requires.words _ c.requires.c_in_bounds.1))

pub float_from_bits-words : goal.float_from_bits-words
float_from_bits-words c = no_nan_pattern _ (omega (arith, word_small (c.requires.words _ c.requires.c_in_bounds.0), word_small (c.requires.words _ c.requires.c_in_bounds.1)))
