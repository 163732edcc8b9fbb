use Rattle.std.proofs.Common.{sym, ◌∙◌, arith}
use Rattle.loops.proofs.PlaceLaws.{searched_none}
use Rattle.lent_list.proofs.SegmentLaws.{every_first, search_first}
use Rattle.lent_list.proofs.first_outside.Goals as goal

pub returns-then-every_cell : goal.returns-then-every_cell
returns-then-every_cell c = searched_none (every_first c.args.list.now (sym c.every_cell.ensures ∙ c.if-every_cell.true) c.requires) (omega arith)

pub returns : goal.returns
returns c = search_first c.args.list.now c.requires c.search_outside.ensures
