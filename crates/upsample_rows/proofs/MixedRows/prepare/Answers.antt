use mathlib.Core.Path.{refl}
use Rattle.upsample_rows.proofs.MixLaws.{mixes_put, mixes_held}
use Rattle.upsample_rows.proofs.MixedRows.prepare.Goals as goal

pub invariant_of-self : goal.invariant_of-self
invariant_of-self c = let s = c.args.self.now in record {
  dw_is = s.dw_is;
  mixes = mixes_put s.columns.sampled.full c.mix_rows.ensures s.mixes.northern.long s.mixes.southern.long;
}

pub returns-then-row-self-clause-mixes_put : goal.returns-then-row-self-clause-mixes_put
returns-then-row-self-clause-mixes_put c = let s = c.args.self.now in mixes_held s.columns.sampled.full refl s.mixes
