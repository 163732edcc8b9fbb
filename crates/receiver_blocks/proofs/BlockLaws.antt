-- A block of inner cells: what its three passes leave.
use Prim.Native.Nat.{ℕ, ◌+◌, ◌-◌, ◌*◌, ◌^◌, ◌≤◌, ◌<◌}
use mathlib.Core.Path.{◌≡◌, ap, ap₂, ◌∙◌, subst}
use mathlib.Core.Logic.{◌⊎◌}
use mathlib.Core.Bool.{Bool, cond}
use mathlib.Core.List.{List, ◌++◌}
use native.Mathlib.Omega.{arith}
use native.Mathlib.Decide.{ℕ_discrete}
use lib.Dec.{eqb}
use lib.ListN.{length, get_or, set, drop, length-set}
use lib.Seq.{get_or-set_same, get_or-set_other}
use lib.Ieee.{Float, nan}
use Rattle.loops.specs.Loops.{tabulate}
use Rattle.loops.proofs.TableLaws.{filled_read}
use Rattle.loops.proofs.FillLaws.{Filling, filling_next}
use Rattle.grid.specs.Directions.{Adjacent}
use Rattle.grid_inner.specs.Inner.{InnerRun}
use Rattle.grid_spacing.specs.Distances.{nine_of}
use Rattle.grid_spacing.specs.declared.Distances.{Distances}
use Rattle.drainage.specs.Ground.{floats, ground_by}
use Rattle.drainage.specs.Receivers.{receiver_of}
use Rattle.receiver.specs.Passes.{Received}
use Rattle.receiver_blocks.specs.Runs.{discoverer_as, steepest_from, steepest_at, NearDiscoverers, Begun, Leads, Stored, RunReceived}
use Rattle.receiver_blocks.proofs.OffsetLaws.{offset_enough, offset_below, offset_received}

-- one cell more: the offset so far is still the one at the start
pub steepest_next :
    (by-direction : List Float) (w h : ℕ) (spill : List Float) (c : ℕ) (old : List ℕ) (slopes : List Float) (i : ℕ) {cells : List ℕ} {v : ℕ} → Filling (steepest_at by-direction w h spill c old slopes) i old cells
    → v ≡ (steepest_from by-direction w h spill (c + i) (record { cell = get_or cells i 0; slope = get_or slopes i nan })).cell → v ≡ steepest_at by-direction w h spill c old slopes i
steepest_next by-direction w h spill c old slopes i p e =
    e ∙ ap (λ (k : ℕ). (steepest_from by-direction w h spill (c + i) (record { cell = k; slope = get_or slopes i nan })).cell) (filling_next p 0)

-- the offset that is read back
module _ (ds : Distances) (w h : ℕ) (spill : List Float) (recv : List ℕ) (c n : ℕ) {cells cells' cells'' : List ℕ} {slopes slopes' : List Float} where
  pub block_offset :
      Begun ds w spill recv c n (record { cells = cells; slopes = slopes }) (record { cells = cells'; slopes = slopes' }) → {by-direction : List Float}
      → by-direction ≡ nine_of ds → cells'' ≡ tabulate n (steepest_at by-direction w h spill c cells' slopes') ++ drop n cells' → (i : ℕ) → i < n
      → get_or cells'' i 0 ≡ (steepest_from (nine_of ds) w h spill (c + i) (discoverer_as ds w spill (c + i) (get_or recv (c + i) 0))).cell
  block_offset b {by-direction} t e i l =
      filled_read (steepest_at by-direction w h spill c cells' slopes') n cells' e i 0 l
      ∙ ap (λ (k : List Float). steepest_at k w h spill c cells' slopes' i) t
      ∙ ap₂ (λ (k : ℕ) (s : Float). (steepest_from (nine_of ds) w h spill (c + i) (record { cell = k; slope = s })).cell)
      (filled_read (λ i. (discoverer_as ds w spill (c + i) (get_or recv (c + i) 0)).cell) n cells b.offsets i 0 l)
      (filled_read (λ i. (discoverer_as ds w spill (c + i) (get_or recv (c + i) 0)).slope) n slopes b.downs i nan l)

-- the receiver of cell c + i, whose offset o the block has found
module _
    (ds : Distances) (w h : ℕ) (spill : List Float) (long : length spill ≡ w * h) (recv : List ℕ) (c n : ℕ) (inner : InnerRun w h c n) (near : NearDiscoverers w h c (c + n) recv) (i : ℕ)
    (l : i < n) (o : ℕ) (e : o ≡ (steepest_from (nine_of ds) w h spill (c + i) (discoverer_as ds w spill (c + i) (get_or recv (c + i) 0))).cell) where
  discoverer : (get_or recv (c + i) 0 ≡ c + i) ⊎ Adjacent w h (c + i) (get_or recv (c + i) 0)
  discoverer = near.near (c + i) (omega arith) (omega arith)

  block_enough : w + 1 ≤ c + i + o
  block_enough = rw e (offset_enough ds w h spill (c + i) (get_or recv (c + i) 0) long (inner.inner i l) discoverer)

  block_below : c + i + o ≤ 2 ^ 25
  block_below = rw e (offset_below ds w h spill (c + i) (get_or recv (c + i) 0) long (inner.inner i l) discoverer)

  block_received :
      {v : ℕ} → v ≡ cond (eqb (get_or recv (c + i) 0) (c + i)) (get_or recv (c + i) 0) (c + i + o - (w + 1))
      → Received ds w h spill (c + i) (get_or recv (c + i) 0) v
  block_received {v} q =
      offset_received ds w h spill (c + i) (get_or recv (c + i) 0) long (inner.inner i l) discoverer v
      (q ∙ ap (λ (o : ℕ). cond (eqb (get_or recv (c + i) 0) (c + i)) (get_or recv (c + i) 0) (c + i + o - (w + 1))) e)

-- the loop of the stores
module _ {w c : ℕ} {cells r : List ℕ} where
  module _ {i : ℕ} {s : List ℕ} (p : Stored w c i cells r s) where
    pub stored_more :
        c + i < length r
        → {v : ℕ} → v ≡ cond (eqb (get_or s (c + i) 0) (c + i)) (get_or s (c + i) 0) (c + i + get_or cells i 0 - (w + 1))
        → Stored w c (i + 1) cells r (set s (c + i) v)
    stored_more l {v} e = record {
      done = λ k m. at k m (ℕ_discrete k i);
      earlier = λ k m. get_or-set_other s (c + i) k v 0 (under k m) ∙ p.earlier k m;
      later = λ k m. get_or-set_other s (c + i) k v 0 (over k m) ∙ p.later k (omega arith);
      long = length-set s (c + i) v ∙ p.long;
    }
      where
        under : (k : ℕ) → k < c → k ≡ c + i → ⊥
        under k m q = omega arith

        over : (k : ℕ) → c + (i + 1) ≤ k → k ≡ c + i → ⊥
        over k m q = omega arith

        apart : (k : ℕ) → (k ≡ i → ⊥) → c + k ≡ c + i → ⊥
        apart k m q = m (omega arith)

        at :
            (k : ℕ) → k < i + 1 → Dec (k ≡ i)
            → get_or (set s (c + i) v) (c + k) 0
            ≡ cond (eqb (get_or r (c + k) 0) (c + k)) (get_or r (c + k) 0) (c + k + get_or cells k 0 - (w + 1))
        at k m (yes q) =
            rw q
            (get_or-set_same s (c + i) v 0 (omega (arith, p.long))
            ∙ e
            ∙ ap (λ (f : ℕ). cond (eqb f (c + i)) f (c + i + get_or cells i 0 - (w + 1))) (p.later (c + i) (omega arith)))
        at k m (no q) = get_or-set_other s (c + i) (c + k) v 0 (apart k q) ∙ p.done k (omega arith)

-- the stores of a whole block leave its receivers
module _
    (ds : Distances) (w h : ℕ) (spill : List Float) (long : length spill ≡ w * h) (recv : List ℕ) (c n : ℕ)
    (inner : InnerRun w h c n) (near : NearDiscoverers w h c (c + n) recv) (cells : List ℕ)
    (e :
    (i : ℕ) → i < n
    → get_or cells i 0 ≡ (steepest_from (nine_of ds) w h spill (c + i) (discoverer_as ds w spill (c + i) (get_or recv (c + i) 0))).cell) where
  pub block_leads : Leads w c n cells
  block_leads = record {
    enough = λ i l. block_enough ds w h spill long recv c n inner near i l (get_or cells i 0) (e i l);
    below = λ i l. block_below ds w h spill long recv c n inner near i l (get_or cells i 0) (e i l);
  }

  pub block_done : {recv' : List ℕ} → Stored w c n cells recv recv' → RunReceived ds w h spill c (c + n) recv recv'
  block_done {recv'} s = record {
    done = λ base k lo hi. at base k (omega arith) (omega arith);
    earlier = s.earlier;
    later = s.later;
    long = s.long;
  }
    where
      at :
          (base : ℕ → Bool) (k : ℕ) → k - c < n → c + (k - c) ≡ k
          → get_or recv' k 0 ≡ receiver_of floats (ground_by w h ds base) spill k (get_or recv k 0)
      at base k l q =
          subst (λ (j : ℕ). get_or recv' j 0 ≡ receiver_of floats (ground_by w h ds base) spill j (get_or recv j 0)) q
          ((block_received ds w h spill long recv c n inner near (k - c) l (get_or cells (k - c) 0) (e (k - c) l)
          (s.done (k - c) l)).is base)
