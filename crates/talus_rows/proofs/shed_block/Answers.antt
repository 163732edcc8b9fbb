use native.Mathlib.Omega.{arith}
use borrow.Author.Rules.{rules}
use Rattle.loops.proofs.FillLaws.{filling_none, filling_more, stored}
use Rattle.talus_rows.proofs.PartLaws.{inner_cell_is}
use Rattle.talus_rows.proofs.BlockLaws.{total_found, loss_found}
use Rattle.talus_rows.proofs.shed_block.Goals as goal

pub loop-i-init : goal.loop-i-init
loop-i-init c = (omega arith, (filling_none, filling_none))

pub shed_around-s-requires : goal.shed_around-s-requires
shed_around-s-requires c = λ e. inner_cell_is c.args.block.inner c.loop-i-test.true c.cell-cell.ensures.map c.cell-cell.ensures.c

pub loop-i-preserved : goal.loop-i-preserved
loop-i-preserved c =
    let z = c.cell-cell.ensures in
    let i = c.loop-i.invariant.1 in
    let few = c.args.block.few in (
      omega (arith, c.loop-i-test.true),
      (
        filling_more i.0 (total_found _ z.map z.c c.shed_around-s.ensures _ c.dry_total.ensures) (search rules),
        filling_more i.1 (loss_found _ z.map z.c c.shed_around-s.ensures _) (search rules),
      ),
    )

pub returns : goal.returns
returns c = let i = c.loop-i.invariant in record { total = stored i.1.0 i.0 c.loop-i-test.false; loss = stored i.1.1 i.0 c.loop-i-test.false }
