use mathlib.Core.Path.{sym, ◌∙◌}
use native.Mathlib.Omega.{arith}
use borrow.Author.Rules.{rules}
use Rattle.grid.proofs.NeighbourLaws.{read_step, read_stepped}
use Rattle.grid_inner.specs.Inner.{Inner}
use Rattle.grid_inner.proofs.InnerLaws.{step_cell}
use Rattle.talus.proofs.StepLaws.{cell_stepped}
use Rattle.talus.proofs.toward.Goals as goal

pub beside-requires-clause-step : goal.beside-requires-clause-step
beside-requires-clause-step g c = read_step c.args.dx c.args.dy c.requires.step

pub returns-then-this-ne0 : goal.returns-then-this-ne0
returns-then-this-ne0 g c =
    let a = c.args in
    let at = read_stepped a.dx a.dy c.requires.step _ _ _ _ c.beside.ensures in
    let inner : Inner a.cell.map.size.w a.cell.map.size.h a.cell.c = search rules in
    (at, omega (arith, at, step_cell _ _ _ _ _ c.requires.step inner))

pub neighbour-m-requires-clause-step : goal.neighbour-m-requires-clause-step
neighbour-m-requires-clause-step g c = read_step c.args.dx c.args.dy c.requires.step

pub returns-then-m-size : goal.returns-then-m-size
returns-then-m-size g c =
    let a = c.args in
    (read_stepped a.dx a.dy c.requires.step _ _ _ _ c.neighbour-m.ensures ∙ sym (cell_stepped a.cell.at a.dx a.dy), c.if-m-size.true)

pub returns-else-m-size : goal.returns-else-m-size
returns-else-m-size g c =
    let a = c.args in
    omega (arith, read_stepped a.dx a.dy c.requires.step _ _ _ _ c.neighbour-m.ensures ∙ sym (cell_stepped a.cell.at a.dx a.dy))
