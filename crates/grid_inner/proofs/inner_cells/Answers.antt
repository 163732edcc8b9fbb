use mathlib.Core.Path.{sym, ◌∙◌}
use Rattle.grid_inner.specs.Inner.{inner_of}
use borrow.Author.Tests.{lt-ltb, le-ltb}
use Rattle.grid_inner.proofs.inner_cells.Goals as goal
use Rattle.grid_inner.proofs.inner_cells.Goals.{then-w-lt3-via-then-w-lt3, then-w-lt3-via-else-w-lt3+then-at_end}

pub returns-then-w-lt3 : goal.returns-then-w-lt3
unfolding inner_of
returns-then-w-lt3 c =
    elim c.then-w-lt3.branch [
      | then-w-lt3-via-then-w-lt3 w ↦ rw (lt-ltb _ 3 w.if-w-lt3.true)
      | then-w-lt3-via-else-w-lt3+then-at_end w ↦ rw (le-ltb _ 3 w.if-w-lt3.false, sym w.at_end.ensures ∙ w.if-at_end.true)
    ]

pub returns : goal.returns
unfolding inner_of
returns c = rw (le-ltb _ 3 c.if-w-lt3.false, sym c.at_end.ensures ∙ c.if-at_end.false)
