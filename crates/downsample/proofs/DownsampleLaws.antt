-- Each way out of `downsample` keeps its promise.
use Rattle.std.specs.declared.result.Result.TheVariants.{Ok, Err}
use Rattle.answers.specs.Outcome.{Answer}
use Prim.Native.Nat.{ℕ}
use mathlib.Core.Path.{◌≡◌}
use mathlib.Core.Bool.{true, false}
use mathlib.Core.List.{List}
use lib.ListN.{length}
use lib.Ieee.{Float}
use Rattle.answers.specs.Outcome.{gives, refused, refused_at, answer_of}
use Rattle.answers.specs.declared.Refusal.{Refusal}
use Rattle.grid.specs.Heights.{all_finite}
use Rattle.resample.specs.Blocks.{map_refusal, downsampled, Downsampled}
use Rattle.resample.proofs.RefusalLaws.{AcceptedMaps, map_refused, past_map}

module _ {src dst : List Float} {w h dw dh : ℕ} where
  pub down_refused : (a : Answer) (r : Refusal) → answer_of a ≡ map_refusal src w h (length dst) dw dh refused refused_at (gives tt) → a ≡ Err r
      → Downsampled src w h dst dw dh a dst
  down_refused a r e f = let p = map_refused src w h (length dst) dw dh a r e f in record { answer = p.0 _; result = p.1 dst _ }

  module _ (s : AcceptedMaps src w h (length dst) dw dh) (after : List Float) (f : after ≡ downsampled src w h dw dh) where
    pub down_run_off : all_finite after ≡ false → Downsampled src w h dst dw dh (Err Refusal.RunOff) after
    down_run_off g = record { answer = past_map s refused refused_at (rw (← f, g)); result = past_map s (λ n. dst) (λ n c. dst) f }

    pub down_done : all_finite after ≡ true → Downsampled src w h dst dw dh (Ok tt) after
    down_done g = record { answer = past_map s refused refused_at (rw (← f, g)); result = past_map s (λ n. dst) (λ n c. dst) f }
