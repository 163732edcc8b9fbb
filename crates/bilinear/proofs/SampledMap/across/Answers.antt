use native.Mathlib.Omega.{arith}
use Rattle.bilinear.proofs.CornerLaws.{place_in, corner_in}
use Rattle.bilinear.proofs.SampledMap.across.Goals as goal

pub bounds-self-corner : goal.bounds-self-corner
bounds-self-corner c = let m = c.args.self.whole in omega (arith, corner_in (place_in m c.requires.column c.requires.row) 0 c.args.south, c.corner.ensures)

pub bounds-self-corner-2 : goal.bounds-self-corner-2
bounds-self-corner-2 c = let m = c.args.self.whole in omega (arith, corner_in (place_in m c.requires.column c.requires.row) 1 c.args.south, c.corner-2.ensures)
