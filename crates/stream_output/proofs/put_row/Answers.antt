use Rattle.stream_output.proofs.OutputLaws.{row_part_put}
use Rattle.stream_output.proofs.put_row.Goals as goal

pub returns : goal.returns
returns c = let a = c.args in row_part_put a.out.now a.at a.map.now a.cell a.w c.requires.w_in_bounds_2 c.put_mark.ensures c.put_words.ensures
