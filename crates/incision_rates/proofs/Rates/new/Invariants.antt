use Prim.Native.Nat.{◌≤◌}
use lib.ListN.{replicate}
use lib.Ieee.{binary32, of_bits}
use Rattle.loops.proofs.FillLaws.{Filling}
use Rattle.floats.specs.Stand.{whole}
use Rattle.incision_rates.specs.Rate.{rate_of}
use Rattle.incision_rates.proofs.Rates.new.Given as goal

abbrev pub invariant-loop-i : goal.invariant-loop-i
invariant-loop-i l = Filling (λ j. rate_of (whole j) l.cells l.k) l.i (replicate 1024 (of_bits binary32 0)) l.table × (l.i ≤ l.size)
