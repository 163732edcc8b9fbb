use mathlib.Core.Path.{refl, ◌∙◌}
use Rattle.fluvial_erosion.proofs.CellLaws.{carved, steps_of, network}
use Rattle.fluvial_erosion.proofs.WaysLaws.{work}
use Rattle.fluvial_erosion.proofs.incise_into.Goals as goal

pub areas_along-requires : goal.areas_along-requires
areas_along-requires c = record {
  near_receivers = rw c.requires.lengths.areas (steps_of c.requires.drains refl);
  work_list = rw c.requires.lengths.areas c.requires.drains.work;
}

pub incise_narrow-requires : goal.incise_narrow-requires
incise_narrow-requires c = record { drains = c.requires.drains; lengths = record { heights = c.requires.lengths.heights; result = c.requires.lengths.result; areas = c.areas_along.auto.area ∙ c.requires.lengths.areas } }

pub returns-then-size-lt3 : goal.returns-then-size-lt3
returns-then-size-lt3 c = carved c.requires.lengths.areas c.areas_along.ensures (record { heights = c.incise_narrow.ensures; still = refl })

pub words_along-requires : goal.words_along-requires
words_along-requires c = record { stepped_network = network c.requires.drains c.if-size-lt3.false c.requires.lengths.areas; work_list = work c.requires.drains }

pub incise_words-requires : goal.incise_words-requires
incise_words-requires c =
    let l = c.requires.lengths in
    record { drains = c.requires.drains; lengths = record { heights = l.heights; result = l.result; areas = c.words_along.auto.words ∙ l.areas }; le_w = (c.if-size-lt3.false, c.words_along.ensures.worded) }

pub returns : goal.returns
returns c = carved c.requires.lengths.areas c.words_along.ensures.areas c.incise_words.ensures
