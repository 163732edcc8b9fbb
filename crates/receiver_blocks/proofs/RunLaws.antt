-- Two runs of cells that meet.
use Prim.Native.Nat.{ℕ, ◌≤◌, ◌<◌}
use mathlib.Core.Path.{◌≡◌, ap, ◌∙◌}
use mathlib.Core.Bool.{Bool}
use mathlib.Core.List.{List}
use native.Mathlib.Omega.{arith}
use native.Mathlib.Decide.{dec_lt}
use lib.ListN.{get_or}
use lib.Ieee.{Float}
use Rattle.grid_spacing.specs.declared.Distances.{Distances}
use Rattle.drainage.specs.Ground.{floats, ground_by}
use Rattle.drainage.specs.Receivers.{receiver_of}
use Rattle.receiver_blocks.specs.Runs.{RunReceived}

module _ (ds : Distances) (w h : ℕ) (spill : List Float) where
  -- two runs, the second from where the first ends
  pub run_join :
      {a b b' d d' : ℕ} {r s t : List ℕ} → RunReceived ds w h spill a b r s → RunReceived ds w h spill b' d s t → b ≡ b' → a ≤ b → b ≤ d → d ≡ d'
      → RunReceived ds w h spill a d' r t
  run_join {a} {b} {b'} {d} {d'} {r} {s} {t} p q e l m f = record {
    done = λ base c lo hi. at base c lo hi (dec_lt c b);
    earlier = λ c k. q.earlier c (omega arith) ∙ p.earlier c k;
    later = λ c k. q.later c (omega arith) ∙ p.later c (omega arith);
    long = q.long ∙ p.long;
  }
    where
      at :
          (base : ℕ → Bool) (c : ℕ) → a ≤ c → c < d' → Dec (c < b)
          → get_or t c 0 ≡ receiver_of floats (ground_by w h ds base) spill c (get_or r c 0)
      at base c lo hi (yes k) = q.earlier c (omega arith) ∙ p.done base c lo k
      at base c lo hi (no k) = q.done base c (omega arith) (omega arith) ∙ ap (receiver_of floats (ground_by w h ds base) spill c) (p.later c (omega arith))
