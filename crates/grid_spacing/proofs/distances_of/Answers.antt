use Rattle.grid_spacing.proofs.distances_of.Goals as goal

pub returns : goal.returns
returns c = λ i. record { column = c.args.s.column; row = c.args.s.row; diagonal = c.root_of.ensures i }
