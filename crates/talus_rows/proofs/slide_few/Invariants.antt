use Prim.Native.Nat.{◌+◌, ◌*◌}
use Rattle.talus.specs.Talus.{slide_cell}
use Rattle.talus.proofs.RowLaws.{Passing}
use Rattle.talus_rows.proofs.slide_few.Given as goal

abbrev pub invariant-loop-i : goal.invariant-loop-i
invariant-loop-i l =
    let b = l.cells in
    Passing (λ k. slide_cell b.map.size.w b.map.size.h l.slide.thresholds b.map.heights.now l.slide.strength l.slide.water (b.x + k + b.y * b.map.size.w)) b.n l.i l.initial.out l.out
