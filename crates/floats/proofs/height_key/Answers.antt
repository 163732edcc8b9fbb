use Rattle.floats.proofs.BitsLaws.{key_high, key_low}
use Rattle.floats.proofs.height_key.Goals as goal

pub returns-then-b-ge2147483648 : goal.returns-then-b-ge2147483648
returns-then-b-ge2147483648 c = key_high _ _ c.to_bits-b.ensures c.if-b-ge2147483648.true

pub returns-else-b-ge2147483648 : goal.returns-else-b-ge2147483648
returns-else-b-ge2147483648 c = key_low _ _ c.to_bits-b.ensures c.if-b-ge2147483648.false
