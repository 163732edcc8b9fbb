use Rattle.receiver_steps.proofs.PlaceLaws.{place_level, place_across}
use Rattle.receiver_steps.proofs.step_place.Goals as goal

pub returns-then-between-lt2 : goal.returns-then-between-lt2
returns-then-between-lt2 c = place_level _ _ _ _ c.abs_diff-between.ensures c.if-between-lt2.true

pub returns : goal.returns
returns c = place_across _ _ _ _ c.abs_diff-between.ensures c.if-between-lt2.false
