use Prim.Native.Nat.{min}
use mathlib.Core.Path.{◌≡◌}
use Rattle.talus.specs.Talus.{slide_cells}
use Rattle.talus_rows.proofs.slide_inner_cells.Given as goal

abbrev pub invariant-loop-i : goal.invariant-loop-i
invariant-loop-i l =
    let b = l.cells in
    l.out ≡ slide_cells b.map.size.w b.map.size.h l.slide.thresholds b.map.heights.now l.slide.strength l.slide.water b.y b.x (min l.i b.n) l.initial.out
