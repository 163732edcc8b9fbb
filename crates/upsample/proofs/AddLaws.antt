-- Each way out of `add_upsampled` keeps its promise.
use Rattle.std.specs.declared.result.Result.TheVariants.{Ok, Err}
use Rattle.answers.specs.Outcome.{Answer}
use Prim.Native.Nat.{ℕ, ◌*◌}
use mathlib.Core.Path.{◌≡◌, sym, ◌∙◌}
use mathlib.Core.Bool.{Bool, true, false}
use mathlib.Core.List.{List}
use native.Mathlib.Omega.{arith}
use lib.ListN.{length}
use lib.Ieee.{Float}
use Rattle.answers.specs.Outcome.{gives, refused, refused_at, answer_of}
use Rattle.answers.specs.declared.Refusal.{Refusal}
use Rattle.grid.specs.Heights.{first_not_finite, all_finite}
use Rattle.resample.specs.WorkSize.{Within}
use Rattle.resample.specs.Blocks.{map_refusal}
use Rattle.resample.proofs.RefusalLaws.{AcceptedMaps, map_refused, past_map}
use Rattle.bilinear.specs.Places.{Grid}
use Rattle.bilinear.specs.Samples.{as_source}
use Rattle.upsample.specs.Samples.{added_of, AddedFinite, Added}

-- the full grid and the reduced one
module _ {w h dw dh : ℕ} (n : Within w h dw dh) where
  pub full_grid : {len : ℕ} → len ≡ w * h → Grid w h len
  full_grid e = omega arith

  pub small_grid : {len : ℕ} → len ≡ dw * dh → Grid dw dh len
  small_grid e = omega arith

module _ {map delta : List Float} {w h dw dh : ℕ} where
  pub add_refused : (a : Answer) (r : Refusal) → answer_of a ≡ map_refusal map w h (length delta) dw dh refused refused_at (gives tt) → a ≡ Err r
      → Added map w h delta dw dh a map
  add_refused a r e f = let p = map_refused map w h (length delta) dw dh a r e f in record { answer = p.0 _; heights = p.1 map _ }

  module _ (s : AcceptedMaps map w h (length delta) dw dh) where
    pub add_small : (c : ℕ) → c ≡ first_not_finite delta → all_finite delta ≡ false → Added map w h delta dw dh (Err (Refusal.Height c)) map
    add_small c f g = record { answer = past_map s refused refused_at (rw (g, f)); heights = past_map s (λ n. map) (λ n c. map) (rw g) }

    module _ (g : all_finite delta ≡ true) {t : Bool} {after : List Float} (a : AddedFinite (added_of as_source map w h delta dw dh) map t after) where
      pub add_run_off : t ≡ false → Added map w h delta dw dh (Err Refusal.RunOff) after
      add_run_off q =
          let off : all_finite (added_of as_source map w h delta dw dh) ≡ false = sym a.good ∙ q in
          record { answer = past_map s refused refused_at (rw (g, off)); heights = past_map s (λ n. map) (λ n c. map) (rw (g, off) (rw q at a.heights)) }

      pub add_done : t ≡ true → Added map w h delta dw dh (Ok tt) after
      add_done q =
          let on : all_finite (added_of as_source map w h delta dw dh) ≡ true = sym a.good ∙ q in
          record { answer = past_map s refused refused_at (rw (g, on)); heights = past_map s (λ n. map) (λ n c. map) (rw (g, on) (rw q at a.heights)) }
