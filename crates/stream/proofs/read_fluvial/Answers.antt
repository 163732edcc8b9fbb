use Rattle.stream.proofs.read_fluvial.Goals as goal

pub returns : goal.returns
returns c = λ i. record { water_level = c.read_f32.ensures i; strength = c.read_f32-2.ensures i; talus = c.read_f32-3.ensures i; uplift = c.read_f32-4.ensures i; iterations = c.read_u32.ensures i; work_res = c.read_u32-2.ensures i }
