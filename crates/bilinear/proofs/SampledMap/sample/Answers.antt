use Rattle.bilinear.proofs.CornerLaws.{index_in, sample_by}
use Rattle.bilinear.proofs.SampledMap.sample.Goals as goal

pub sample_at-requires : goal.sample_at-requires
sample_at-requires c = record { column = index_in _ _ c.index.ensures c.args.self.whole.w_low; row = index_in _ _ c.index-2.ensures c.args.self.whole.h_low }

pub returns : goal.returns
returns c = let a = c.args.self in
    sample_by a.v.now a.size.w a.size.h c.args.x c.args.y c.index.ensures c.fract.ensures c.index-2.ensures c.fract-2.ensures c.sample_at.ensures
