use mathlib.Core.Path.{sym, ◌∙◌}
use Rattle.talus_rows.proofs.BlockLaws.{sheds_put, block_still}
use Rattle.talus_rows.proofs.SlideLaws.{block_slid}
use Rattle.talus_rows.proofs.slide_block.Goals as goal

pub returns-then-k-eq0 : goal.returns-then-k-eq0
returns-then-k-eq0 c = block_still _ _ _ _ _ _ _ _ _ _ _ _ (sheds_put c.shed_block.ensures) (sym c.shedding-k.ensures ∙ c.if-k-eq0.true)

pub slide_few-requires : goal.slide_few-requires
slide_few-requires c = record { out_len = c.requires; sheds = sheds_put c.shed_block.ensures }

pub returns : goal.returns
returns c = c.slide_directions.ensures ∙ block_slid _ _ _ _ _ _ _ _ _ _ c.args.block.inner _ _ (sheds_put c.shed_block.ensures) _
