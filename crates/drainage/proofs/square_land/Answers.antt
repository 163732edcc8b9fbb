use Rattle.drainage.proofs.square_land.Goals as goal

pub returns : goal.returns
returns c = λ i. record { water_level = c.args.water_level; sides = c.all_open.ensures i; distances = c.square_distances.ensures i }
