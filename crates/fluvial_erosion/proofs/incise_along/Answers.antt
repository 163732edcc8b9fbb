use mathlib.Core.Path.{◌∙◌, subst}
use mathlib.Core.List.{List}
use lib.Ieee.{Float}
use Rattle.fluvial_erosion.specs.Along.{Incised}
use Rattle.fluvial_erosion.proofs.CellLaws.{network}
use Rattle.fluvial_erosion.proofs.incise_along.Goals as goal

pub to_words-requires : goal.to_words-requires
to_words-requires c = record { stepped_network = network c.requires.drains c.if-size-lt3.false c.requires.lengths.areas; whole_areas = c.requires.whole_areas }

pub incise_words-requires : goal.incise_words-requires
incise_words-requires c =
    let l = c.requires.lengths in
    record { drains = c.requires.drains; lengths = record { heights = l.heights; result = l.result; areas = c.to_words.auto.words ∙ l.areas }; le_w = (c.if-size-lt3.false, c.to_words.ensures.worded) }

pub returns : goal.returns
returns c = let a = c.args in
    let turned = c.to_words in
    let words = c.incise_words in
    let left = words.new in
    subst (λ (t : List Float). Incised a.size.w a.size.h a.hmap.now a.params a.ds t a.recv.now a.order.now (record { out = left.out; area = left.words }))
    turned.ensures.areas words.ensures
