use Rattle.std.proofs.Common.{arith}
use Rattle.lent_list.proofs.SegmentLaws.{walk_none}
use Rattle.lent_list_marks.proofs.SeenLaws.{words_none, clear_at}
use Rattle.lent_list.proofs.first_in_segment.Goals as goal

pub loop-p-init : goal.loop-p-init
loop-p-init c = walk_none (words_none (clear_at 131200 (omega arith)))
