use Rattle.std.proofs.Common.{false}
use Rattle.lent_list_blocks.specs.Blocks.{taken_at, Picked}
use Rattle.lent_list_blocks.proofs.positions_in.Given as goal

abbrev pub invariant-loop-place : goal.invariant-loop-place
invariant-loop-place l = Picked l.list l.lo l.from l.place (taken_at false l.places l.from) l.k
