use Rattle.stream_output.proofs.OutputLaws.{end_put}
use Rattle.stream_output.proofs.put_end.Goals as goal

pub returns : goal.returns
returns c = end_put c.args.out.now _ _ _ _ _ c.put_mark.ensures c.put_u16.ensures c.put_u32.ensures c.put_u32-2.ensures c.put_u32-3.ensures
