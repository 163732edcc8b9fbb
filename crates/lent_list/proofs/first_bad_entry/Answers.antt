use Rattle.loops.proofs.PlaceLaws.{searched_only}
use Rattle.lent_list.proofs.SegmentLaws.{scanned_all}
use Rattle.lent_list.proofs.first_bad_entry.Goals as goal

pub returns-then-n-le-FEW_CELLS : goal.returns-then-n-le-FEW_CELLS
returns-then-n-le-FEW_CELLS c = searched_only (λ f s. scanned_all c.requires.list_lengths s) c.first_by_bytes.ensures

pub returns-then-n-le-MANY_CELLS : goal.returns-then-n-le-MANY_CELLS
returns-then-n-le-MANY_CELLS c = searched_only (λ f s. scanned_all c.requires.list_lengths s) c.first_by_bytes-then-n-le-MANY_CELLS.ensures
