use Rattle.upsample_rows.proofs.MixLaws.{mixes_put}
use Rattle.upsample_rows.proofs.MixedRows.new.Goals as goal

pub invariant_of-result : goal.invariant_of-result
invariant_of-result c = record { dw_is = c.requires; mixes = mixes_put c.args.columns.sampled.full c.mix_rows.ensures c.told-north c.told-south }
