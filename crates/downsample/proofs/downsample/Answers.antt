use Rattle.std.proofs.lemmas.Result.{err_from_is_err_and}
use Rattle.std.specs.declared.result.Result.TheVariants.{Err}
use mathlib.Core.Path.{refl, sym, ap, ◌∙◌}
use Rattle.answers.specs.Outcome.{answer_of}
use lib.ListN.{length}
use Rattle.resample.proofs.RefusalLaws.{AcceptedMaps, map_good}
use Rattle.downsample.proofs.DownsampleLaws.{down_refused, down_run_off, down_done}
use Rattle.downsample.proofs.downsample.Goals as goal
use Rattle.downsample.proofs.downsample.Goals.{In_ok-map_refusal}

pub returns-in_err-map_refusal : goal.returns-in_err-map_refusal
returns-in_err-map_refusal c =
    let p = err_from_is_err_and c.from_residual.result c.from_residual.ensures.1 in
    rw (p.1, p.2) (down_refused (Err c.in_err-map_refusal.field-0.0) _ (ap answer_of (sym c.in_err-map_refusal.was) ∙ c.map_refusal.ensures) refl)

-- past the refusals of the map
accepted : (c : In_ok-map_refusal) → let a = c.args in AcceptedMaps a.src.now a.size.w a.size.h (length a.dst.now) a.dsize.w a.dsize.h
accepted c = map_good _ _ _ _ _ _ _ c.map_refusal.ensures c.in_ok-map_refusal.was

pub downsample_into-requires : goal.downsample_into-requires
downsample_into-requires c =
    let s = accepted (goal.at.downsample_into-requires c).In_ok-map_refusal in
    record { within = s.in_grid; src_len = s.full; dst_len = s.small }

pub returns-then-not-all_finite : goal.returns-then-not-all_finite
returns-then-not-all_finite c = down_run_off (accepted (goal.at.returns-then-not-all_finite c).In_ok-map_refusal) _ c.downsample_into.ensures (sym c.all_finite.ensures ∙ c.if-not-all_finite.true)

pub returns : goal.returns
returns c = down_done (accepted (goal.at.returns c).In_ok-map_refusal) _ c.downsample_into.ensures (sym c.all_finite.ensures ∙ c.if-not-all_finite.false)
