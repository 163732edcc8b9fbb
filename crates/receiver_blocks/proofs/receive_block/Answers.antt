use Rattle.receiver_blocks.proofs.BlockLaws.{block_offset, block_leads, block_done}
use Rattle.receiver_blocks.proofs.receive_block.Goals as goal

pub store_block-requires-clause-leads : goal.store_block-requires-clause-leads
store_block-requires-clause-leads c = let b = c.args.block.now in block_leads _ _ _ _ b.spill.whole _ _ _ b.inner c.requires.near_discoverers _ (block_offset _ _ _ _ _ _ _ c.discoverer_block.ensures c.args.tables.now.directed c.steepest_block.ensures)

pub returns : goal.returns
returns c = let b = c.args.block.now in block_done _ _ _ _ b.spill.whole _ _ _ b.inner c.requires.near_discoverers _ (block_offset _ _ _ _ _ _ _ c.discoverer_block.ensures c.args.tables.now.directed c.steepest_block.ensures) c.store_block.ensures
