use Rattle.areas.proofs.SumLaws.{along_of}
use Rattle.areas.proofs.WordLaws.{network_of, worded_words}
use Rattle.areas.proofs.areas_along.Goals as goal

pub read_areas-requires : goal.read_areas-requires
read_areas-requires c = worded_words (network_of c.if-width-ge3.true c.requires.near_receivers c.requires.work_list).0 c.words_along.ensures.worded

pub accumulate-requires : goal.accumulate-requires
accumulate-requires c = along_of c.requires.near_receivers c.requires.work_list
