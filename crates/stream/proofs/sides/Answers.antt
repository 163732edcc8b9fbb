use Rattle.stream.proofs.sides.Goals as goal

pub returns : goal.returns
returns c = λ i. record { w = c.read_u16.ensures i; h = c.read_u16-2.ensures i }
