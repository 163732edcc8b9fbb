use Prim.Native.Nat.{◌+◌, ◌*◌}
use Rattle.talus.specs.Talus.{slide_cell}
use Rattle.talus.proofs.RowLaws.{Passing}
use Rattle.talus.proofs.slide_cells.Given as goal

abbrev pub invariant-loop-i : goal.invariant-loop-i
invariant-loop-i l =
    let a = l.cells in
    Passing (λ k. slide_cell a.map.size.w a.map.size.h l.slide.thresholds a.map.heights.now l.slide.strength l.slide.water (a.x + k + a.y * a.map.size.w)) a.n l.i l.initial.out l.out
