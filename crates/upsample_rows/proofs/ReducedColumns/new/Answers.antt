use Rattle.upsample_rows.proofs.MixLaws.{columns_put}
use Rattle.upsample_rows.proofs.ReducedColumns.new.Goals as goal

pub invariant_of-result : goal.invariant_of-result
invariant_of-result c = record { sampled = c.requires; placed = columns_put _ _ c.columns.ensures }
