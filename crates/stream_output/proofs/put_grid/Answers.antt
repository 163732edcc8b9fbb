use Rattle.stream_output.proofs.OutputLaws.{grid_put}
use Rattle.stream_output.proofs.put_grid.Goals as goal

pub returns : goal.returns
returns c = grid_put c.args.out.now _ _ c.put_mark.ensures c.put_u16.ensures c.put_u16-2.ensures
