use Prim.Native.Nat.{◌+◌, ◌*◌, ◌≤◌}
use Rattle.loops.proofs.FillLaws.{Filling}
use Rattle.talus_rows.specs.Blocks.{shed_total, moved_from}
use Rattle.talus_rows.proofs.shed_block.Given as goal

abbrev pub invariant-loop-i : goal.invariant-loop-i
invariant-loop-i l =
    let b = l.cells in
    let s = l.slide in
    (l.i ≤ b.n) × (Filling (λ j. shed_total b.map.size.w b.map.size.h s.thresholds b.map.heights.now s.water (b.x + j + b.y * b.map.size.w)) l.i l.initial.totals l.totals × Filling (λ j. moved_from b.map.size.w b.map.size.h s.thresholds b.map.heights.now s.strength (b.x + j + b.y * b.map.size.w)) l.i l.initial.moved l.moved)
