use native.Mathlib.Omega.{arith}
use Rattle.bilinear.proofs.CornerLaws.{place_in, place_fits}
use Rattle.bilinear.proofs.SampledMap.corner.Goals as goal

pub overflow_mul-at : goal.overflow_mul-at
overflow_mul-at c = omega (arith, place_fits (place_in c.args.self.whole c.requires.column c.requires.row))
