use Prim.Native.Nat.{◌+◌}
use lib.ListN.{get_or}
use Rattle.loops.proofs.FillLaws.{Filling}
use Rattle.receiver_blocks.specs.Runs.{discoverer_as}
use Rattle.receiver_blocks.proofs.discoverer_block.Given as goal

abbrev pub invariant-loop-i : goal.invariant-loop-i
invariant-loop-i l =
    Filling (λ k. (discoverer_as l.tables.distances l.w l.block.spill.heights.now (l.block.first + k) (get_or l.recv (l.block.first + k) 0)).cell) l.i l.initial.cells l.cells
    × Filling (λ k. (discoverer_as l.tables.distances l.w l.block.spill.heights.now (l.block.first + k) (get_or l.recv (l.block.first + k) 0)).slope) l.i l.initial.slopes l.slopes
