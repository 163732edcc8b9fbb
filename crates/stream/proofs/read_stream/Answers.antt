use Rattle.stream.proofs.ReaderLaws.{read_grid, read_buffer, read_sides, read_range, read_cells, read_rest, read_whole, read_framed, read_values}
use Rattle.stream.proofs.read_stream.Goals as goal

pub returns-then-bad_grid : goal.returns-then-bad_grid
returns-then-bad_grid c = read_grid c.args.limited c.args.bytes.now c.bad_grid.ensures c.if-bad_grid.true

pub sides-size-requires : goal.sides-size-requires
sides-size-requires c = read_buffer c.args.limited c.args.bytes.now c.bad_grid.ensures c.if-bad_grid.false

pub returns-then-bad_sides : goal.returns-then-bad_sides
returns-then-bad_sides c = read_sides c.args.limited c.args.bytes.now c.bad_grid.ensures c.if-bad_grid.false c.sides-size.ensures c.bad_sides.ensures c.if-bad_sides.true

pub too_many-requires : goal.too_many-requires
too_many-requires c = read_range c.args.limited c.args.bytes.now c.bad_grid.ensures c.if-bad_grid.false c.sides-size.ensures c.bad_sides.ensures c.if-bad_sides.false

pub returns-then-too_many : goal.returns-then-too_many
returns-then-too_many c = read_cells c.args.limited c.args.bytes.now c.bad_grid.ensures c.if-bad_grid.false c.sides-size.ensures c.bad_sides.ensures c.if-bad_sides.false c.too_many.ensures c.if-too_many.true

pub bad_rest-requires : goal.bad_rest-requires
bad_rest-requires c = read_range c.args.limited c.args.bytes.now c.bad_grid.ensures c.if-bad_grid.false c.sides-size.ensures c.bad_sides.ensures c.if-bad_sides.false

pub returns-then-bad_rest : goal.returns-then-bad_rest
returns-then-bad_rest c = read_rest c.args.limited c.args.bytes.now c.bad_grid.ensures c.if-bad_grid.false c.sides-size.ensures c.bad_sides.ensures c.if-bad_sides.false c.too_many.ensures c.if-too_many.false c.bad_rest.ensures c.if-bad_rest.true

pub read_header-requires : goal.read_header-requires
read_header-requires c = record { size_value = c.sides-size.ensures; whole = read_whole c.args.limited c.args.bytes.now c.bad_grid.ensures c.if-bad_grid.false c.sides-size.ensures c.bad_sides.ensures c.if-bad_sides.false c.too_many.ensures c.if-too_many.false c.bad_rest.ensures c.if-bad_rest.false }

pub checked-requires : goal.checked-requires
checked-requires c = read_framed c.args.limited c.args.bytes.now c.bad_grid.ensures c.if-bad_grid.false c.sides-size.ensures c.bad_sides.ensures c.if-bad_sides.false c.too_many.ensures c.if-too_many.false c.bad_rest.ensures c.if-bad_rest.false c.read_header.ensures

pub returns : goal.returns
returns c = read_values c.args.limited c.args.bytes.now c.bad_grid.ensures c.if-bad_grid.false c.sides-size.ensures c.bad_sides.ensures c.if-bad_sides.false c.too_many.ensures c.if-too_many.false c.bad_rest.ensures c.if-bad_rest.false c.read_header.ensures c.checked.ensures
