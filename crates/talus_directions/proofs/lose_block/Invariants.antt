use Rattle.talus.proofs.RowLaws.{Passing}
use Rattle.talus_directions.specs.Parts.{loss_of}
use Rattle.talus_directions.proofs.lose_block.Given as goal

abbrev pub invariant-loop-i : goal.invariant-loop-i
invariant-loop-i l =
    let b = l.cells in
    Passing (loss_of b.map.size.w b.y b.x l.sheds.totals.now l.sheds.moved.now) b.n l.i l.initial.out l.out
