use mathlib.Core.Path.{◌∙◌}
use Rattle.talus_directions.proofs.OrderLaws.{looped, loops_cells}
use Rattle.talus_directions.proofs.slide_directions.Goals as goal

pub returns : goal.returns
returns c = looped _ _ _ _ _ _ _ _
    (record {
      north_east = c.gain_block.ensures;
      north = c.gain_block-2.ensures;
      north_west = c.gain_block-3.ensures;
      east = c.gain_block-4.ensures;
      own = c.lose_block.ensures;
      west = c.gain_block-5.ensures;
      south_east = c.gain_block-6.ensures;
      south = c.gain_block-7.ensures;
      south_west = c.gain_block-8.ensures;
    })
    ∙ loops_cells _ _ _ _ _ _ _ _ _ _ c.args.block.inner _
