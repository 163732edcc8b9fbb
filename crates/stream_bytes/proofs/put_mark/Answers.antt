use Rattle.stream_bytes.proofs.PutLaws.{copied}
use Rattle.stream_bytes.proofs.put_mark.Goals as goal

pub returns : goal.returns
returns c = let a = c.args in
    copied a.out.now a.at 2 a.mark.now c.requires.mark_len c.requires.at_in_bounds c.copy_from_slice.ensures.after
