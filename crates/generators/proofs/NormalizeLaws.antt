-- The four ends of `normalize`, each with its answer and the slice after it.
use Rattle.std.specs.declared.result.Result.TheVariants.{Ok, Err}
use Prim.Native.Nat.{ℕ}
use mathlib.Core.Path.{◌≡◌, sym, ap, ◌∙◌}
use mathlib.Core.Bool.{Bool, true, false, not}
use mathlib.Core.List.{List, map}
use borrow.Author.Tests.{not-true, not-false}
use lib.Ieee.{Float}
use Rattle.answers.specs.Outcome.{refused_at}
use Rattle.answers.specs.declared.Refusal.{Refusal}
use Rattle.grid.specs.Heights.{first_not_finite, all_finite}
use Rattle.generators.specs.declared.MinMax.{MinMax}
use Rattle.generators.specs.Extents.{min_max_of, slope_of, scaled_by, normalized_of, bad_targets, NormalizeMade}

module _ (v : List Float) (lo hi : Float) where
  pub normalize_setting : bad_targets lo hi ≡ true → NormalizeMade v lo hi (Err Refusal.Setting) v
  normalize_setting b = record { answer = rw b; heights = rw b }

  pub normalize_height : (c : ℕ) → bad_targets lo hi ≡ false → c ≡ first_not_finite v → all_finite v ≡ false → NormalizeMade v lo hi (Err (Refusal.Height c)) v
  normalize_height c b e f = record { answer = rw (b, f) (ap (refused_at 5) e); heights = rw (b, f) }

  -- past refusals 4 and 5, with the extent m and the slope k
  pub record NormalizeAccepted (m : MinMax) (k : Float) : Type 0 where
    pub targets : bad_targets lo hi ≡ false
    pub finites : all_finite v ≡ true
    pub extent : m ≡ min_max_of v
    pub slope : k ≡ slope_of m lo hi

  module _ (m : MinMax) (k : Float) (a : NormalizeAccepted m k) where
    scaled_result : map (scaled_by m.min lo k) v ≡ normalized_of v lo hi
    unfolding normalized_of
    scaled_result =
        ap (λ (q : Float). map (scaled_by m.min lo q) v) a.slope ∙ ap (λ (q : MinMax). map (scaled_by q.min lo (slope_of q lo hi)) v) a.extent

    module _ (t : Bool) (e : t ≡ not (all_finite (map (scaled_by m.min lo k) v))) where
      pub normalize_runs_off : t ≡ true → NormalizeMade v lo hi (Err Refusal.RunOff) v
      normalize_runs_off h =
          let f : all_finite (normalized_of v lo hi) ≡ false = ap all_finite (sym scaled_result) ∙ not-true _ (sym e ∙ h) in
          record { answer = rw (a.targets, a.finites, f); heights = rw (a.targets, a.finites, f) }

      pub normalize_done : (w : List Float) → t ≡ false → w ≡ map (scaled_by m.min lo k) v → NormalizeMade v lo hi (Ok tt) w
      normalize_done w h s =
          let f : all_finite (normalized_of v lo hi) ≡ true = ap all_finite (sym scaled_result) ∙ not-false _ (sym e ∙ h) in
          record { answer = rw (a.targets, a.finites, f); heights = rw (a.targets, a.finites, f) (s ∙ scaled_result) }
