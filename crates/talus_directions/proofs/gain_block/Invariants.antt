use Rattle.talus.proofs.RowLaws.{Passing}
use Rattle.talus_directions.specs.Parts.{gain_of}
use Rattle.talus_directions.proofs.gain_block.Given as goal

abbrev pub invariant-loop-i : goal.invariant-loop-i
invariant-loop-i l =
    let b = l.cells in
    Passing (gain_of b.map.size.w b.map.size.h l.slide.thresholds b.map.heights.now b.y b.x l.sheds.totals.now l.sheds.moved.now l.d) b.n l.i l.initial.out l.out
