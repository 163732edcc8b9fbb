use mathlib.Core.Path.{refl, ◌∙◌}
use Rattle.areas.specs.Words.{areas_in}
use Rattle.areas.proofs.WordLaws.{worded_words}
use Rattle.fluvial_erosion.proofs.CellLaws.{network, along_done}
use Rattle.fluvial_erosion.proofs.WaysLaws.{ways_of, ways_left}
use Rattle.fluvial_erosion.proofs.incise_words.Goals as goal

pub incise_ways-requires : goal.incise_ways-requires
incise_ways-requires c = record {
  ways = rw c.incision_of-by.ensures (ways_of c.requires.drains c.requires.lengths c.requires.le_w.0);
  worded = rw c.incision_of-by.ensures c.requires.le_w.1;
}

pub returns-then-words-gt-LISTED : goal.returns-then-words-gt-LISTED
returns-then-words-gt-LISTED c = let a = c.args in
    record {
      heights = ways_left c.requires.drains a.params a.ds (areas_in a.words.now) a.hmap.now c.incision_of-by.ensures c.requires.lengths.heights c.incise_ways.ensures.heights;
      still = c.read_areas.ensures ∙ c.incise_ways.ensures.areas;
    }

pub incise_listed-requires : goal.incise_listed-requires
incise_listed-requires c =
    let long = c.copy_heights.auto.out ∙ c.requires.lengths.result in
    record {
      along = rw long c.requires.drains.along;
      stepped_network = rw (c.incision_of-by.ensures, long) (network c.requires.drains c.requires.le_w.0 refl);
      worded = rw c.incision_of-by.ensures c.requires.le_w.1;
    }

pub read_areas-requires-2 : goal.read_areas-requires-2
read_areas-requires-2 c = worded_words (network c.requires.drains c.requires.le_w.0 c.requires.lengths.areas) c.requires.le_w.1

pub returns : goal.returns
returns c = let a = c.args in
    record {
      heights = along_done c.requires.drains a.params a.ds (areas_in a.words.now) a.hmap.now c.incision_of-by.ensures c.requires.lengths.heights c.copy_heights.ensures c.incise_listed.ensures;
      still = c.read_areas-2.ensures;
    }
