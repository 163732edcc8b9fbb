use native.Mathlib.Omega.{arith}
use mathlib.Core.Path.{◌≡◌, sym}
use Rattle.grid.specs.Directions.{shifted_of}
use Rattle.grid.proofs.SidesLaws.{cells_fit, cell_lt}
use Rattle.grid.proofs.ShiftedLaws.{read_steps, read_shifts}
use Rattle.grid.proofs.NeighbourLaws.{past_column, past_row, within}
use Rattle.grid.proofs.neighbour.Goals as goal
use Rattle.grid.proofs.neighbour.Goals.{After-shifted-nx, After-shifted-ny}

pub shifted-nx-requires : goal.shifted-nx-requires
shifted-nx-requires c = let p = c.requires.place in
    read_steps c.args.dx c.requires.step.columns _ _ p.column p.wide

-- where the two steps lead
column : (c : After-shifted-nx) → shifted_of c.args.x c.args.dx c.args.g.w ≡ c.shifted-nx.result
column c = read_shifts c.args.dx c.requires.step.columns _ _ c.shifted-nx.ensures

row : (c : After-shifted-ny) → shifted_of c.args.y c.args.dy c.args.g.h ≡ c.shifted-ny.result
row c = read_shifts c.args.dy c.requires.step.rows _ _ c.shifted-ny.ensures

pub overflow_mul-result : goal.overflow_mul-result
overflow_mul-result c = let p = c.requires.place in
    cells_fit _ _ p.wide p.high

pub returns-then-w-nx : goal.returns-then-w-nx
returns-then-w-nx c = sym (past_column _ _ _ _ _ _ _ (column (goal.at.returns-then-w-nx c).After-shifted-nx) c.if-w-nx.true)

pub shifted-ny-requires : goal.shifted-ny-requires
shifted-ny-requires c = let p = c.requires.place in
    read_steps c.args.dy c.requires.step.rows _ _ p.row p.high

pub overflow_mul-result-then-h-ny : goal.overflow_mul-result-then-h-ny
overflow_mul-result-then-h-ny c = let p = c.requires.place in
    cells_fit _ _ p.wide p.high

pub returns-then-h-ny : goal.returns-then-h-ny
returns-then-h-ny c = sym (past_row _ _ _ _ _ _ _ (column (goal.at.returns-then-h-ny c).After-shifted-nx) _ (row (goal.at.returns-then-h-ny c).After-shifted-ny) c.if-w-nx.false c.if-h-ny.true)

pub overflow_mul-result-2 : goal.overflow_mul-result-2
overflow_mul-result-2 c = let p = c.requires.place in
    omega (arith, cell_lt _ _ _ c.if-w-nx.false _ c.if-h-ny.false, cells_fit _ _ p.wide p.high)

pub overflow_add-result : goal.overflow_add-result
overflow_add-result c = let p = c.requires.place in
    omega (arith, cell_lt _ _ _ c.if-w-nx.false _ c.if-h-ny.false, cells_fit _ _ p.wide p.high)

pub returns : goal.returns
returns c = sym (within _ _ _ _ _ _ _ (column (goal.at.returns c).After-shifted-nx) _ (row (goal.at.returns c).After-shifted-ny) c.if-w-nx.false c.if-h-ny.false)
