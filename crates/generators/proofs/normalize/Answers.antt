use mathlib.Core.Path.{sym, ◌∙◌}
use Rattle.grid.proofs.HeightsLaws.{bad_height, bad_height_is, no_bad_height}
use Rattle.generators.proofs.NormalizeLaws.{NormalizeAccepted, normalize_setting, normalize_height, normalize_runs_off, normalize_done}
use Rattle.generators.proofs.normalize.Goals as goal
use Rattle.generators.proofs.normalize.Goals.{After-min_max-m, After-slope-k}

-- what is known where the slope has been computed, for both ends that follow
accepted : (c : After-slope-k)
    → let a = c.args in NormalizeAccepted a.v.now a.target_min a.target_max c.min_max-m.result c.slope-k.result
accepted c = record {
  targets = sym c.bad_targets.ensures ∙ c.if-bad_targets.false;
  finites = no_bad_height _ c.first_not_finite.ensures c.in_default.is;
  extent = c.min_max-m.ensures;
  slope = c.slope-k.ensures;
}

pub returns-then-bad_targets : goal.returns-then-bad_targets
returns-then-bad_targets c = normalize_setting _ _ _ (sym c.bad_targets.ensures ∙ c.if-bad_targets.true)

pub returns-in-Some : goal.returns-in-Some
returns-in-Some c = normalize_height _ _ _ _ (sym c.bad_targets.ensures ∙ c.if-bad_targets.false)
    (bad_height_is _ c.first_not_finite.ensures c.in-Some.is) (bad_height _ c.first_not_finite.ensures c.in-Some.is)

pub returns-then-runs_off : goal.returns-then-runs_off
returns-then-runs_off c = normalize_runs_off _ _ _ _ _ (accepted (goal.at.returns-then-runs_off c).After-slope-k) _ c.runs_off.ensures c.if-runs_off.true

pub returns : goal.returns
returns c = normalize_done _ _ _ _ _ (accepted (goal.at.returns c).After-slope-k) _
    c.runs_off.ensures _ c.if-runs_off.false c.store_scaled.ensures
