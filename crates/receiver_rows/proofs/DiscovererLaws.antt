-- The discoverers of a run of cells stay until the run is done; the run of all cells makes the receivers.
use Prim.Native.Nat.{ℕ, ◌*◌, ◌≤◌, ◌<◌}
use mathlib.Core.Path.{◌≡◌, sym, ◌∙◌, subst}
use mathlib.Core.Logic.{◌⊎◌, inl, inr}
use mathlib.Core.Bool.{Bool}
use mathlib.Core.List.{List}
use native.Mathlib.Omega.{arith}
use native.Mathlib.Decide.{ℕ_discrete}
use lib.ListN.{length, get_or}
use lib.Seq.{ext_get_or}
use lib.Ieee.{Float}
use Rattle.loops.proofs.TableLaws.{length_tabulate, get_d_tabulate}
use Rattle.grid.specs.Directions.{Adjacent}
use Rattle.grid_spacing.specs.declared.Distances.{Distances}
use Rattle.drainage.specs.Ground.{floats, ground_by}
use Rattle.drainage.specs.Receivers.{receiver_of, receivers}
use Rattle.receiver.specs.Passes.{Discoverers}
use Rattle.receiver_blocks.specs.Runs.{NearDiscoverers, RunReceived}

module _ (ds : Distances) (w h : ℕ) (spill : List Float) where
  pub near_at :
      {a b from to : ℕ} {r s : List ℕ} → NearDiscoverers w h from to r → RunReceived ds w h spill a b r s → (c : ℕ) → from ≤ c → b ≤ c → c < to
      → (get_or s c 0 ≡ c) ⊎ Adjacent w h c (get_or s c 0)
  near_at n p c l m k = subst (λ (f : ℕ). (f ≡ c) ⊎ Adjacent w h c f) (sym (p.later c m)) (n.near c l k)

  pub near_after : {a b from to : ℕ} {r s : List ℕ} (b' d : ℕ) → NearDiscoverers w h from to r → RunReceived ds w h spill a b r s → from ≤ b' → b ≤ b' → d ≤ to → NearDiscoverers w h b' d s
  near_after b' d n p l m k = record { near = λ c lo hi. near_at n p c (omega arith) (omega arith) (omega arith) }

  -- all cells
  pub run_all :
      {n : ℕ} {r s : List ℕ} → RunReceived ds w h spill 0 n r s → n ≡ w * h → length r ≡ w * h
      → (base : ℕ → Bool) → s ≡ receivers floats (ground_by w h ds base) spill r
  unfolding receivers
  run_all {n} {r} {s} p e l base =
      ext_get_or 0 s _ (p.long ∙ l ∙ sym (length_tabulate (λ c. receiver_of floats (ground_by w h ds base) spill c (get_or r c 0)) (w * h)))
      (λ c m.
      let k : c < w * h = omega (arith, m, p.long, l) in
      p.done base c (omega arith) (omega arith) ∙ sym (get_d_tabulate (λ c. receiver_of floats (ground_by w h ds base) spill c (get_or r c 0)) (w * h) c 0 k))

module _ {w h : ℕ} {r : List ℕ} where
  -- fewer of them
  pub near_part : {from to : ℕ} (a b : ℕ) → NearDiscoverers w h from to r → from ≤ a → b ≤ to → NearDiscoverers w h a b r
  near_part a b n l m = record { near = λ c lo hi. n.near c (omega arith) (omega arith) }

  pub near_all : Discoverers w h r → (a b : ℕ) → b ≤ w * h → NearDiscoverers w h a b r
  near_all f a b l = record { near = λ c lo hi. go c (omega arith) (ℕ_discrete (get_or r c 0) c) }
    where
      go : (c : ℕ) → c < w * h → Dec (get_or r c 0 ≡ c) → (get_or r c 0 ≡ c) ⊎ Adjacent w h c (get_or r c 0)
      go c k (yes e) = inl e
      go c k (no e) = inr (f.near c k e)

-- as the plain path asks it
pub near_other : {w h c f : ℕ} → (f ≡ c) ⊎ Adjacent w h c f → (f ≡ c → ⊥) → Adjacent w h c f
near_other (inl e) other = absurd (other e)
near_other (inr a) other = a
