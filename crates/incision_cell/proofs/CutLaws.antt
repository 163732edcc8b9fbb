-- A cell is cut by its word as by its area and its receiver.
use Prim.Native.Nat.{ℕ, ◌%◌, ◌<◌}
use native.Mathlib.Omega.{arith}
use mathlib.Core.Path.{◌≡◌, ap, ap₂, ◌∙◌}
use mathlib.Core.List.{List}
use lib.ListN.{length, get_or, set}
use lib.Ieee.{Float, nan, binary32, to_bits}
use Rattle.receiver_steps.specs.Distance.{apart}
use Rattle.receiver_steps.specs.Step.{step_distances}
use Rattle.receiver_steps.proofs.StepLaws.{step_distance}
use Rattle.areas.specs.Words.{areas_in, receiver_in, SteppedNetwork, Worded}
use Rattle.areas.proofs.WordLaws.{area_is, stepped, leads}
use Rattle.incision_cell.specs.Cut.{incision_coef, drained_to, cut_of, cut_down, cut_by_word}
use Rattle.incision_cell.specs.declared.Incision.{Incision}

module _ (by : Incision) {cells : ℕ} {recv : List ℕ} (net : SteppedNetwork by.width recv cells) {words : List Float} (d : Worded by.width recv words) where
  distance_is : (c : ℕ) → c < length recv → get_or (step_distances by.distances) (to_bits binary32 (get_or words c nan) % 16) nan ≡ apart by.distances by.width c (get_or recv c 0)
  distance_is c l = ap (λ (s : ℕ). get_or (step_distances by.distances) s nan) (stepped net d c l) ∙ step_distance (net.steps.near c l) net.columns by.distances

  pub by_word : (c : ℕ) → c < length recv → (own x : Float) → cut_by_word by words c own x ≡ cut_down by (areas_in words) recv c own x
  by_word c l own x =
      ap₂ (cut_of own by.uplift by.water) (ap₂ (λ (a d : Float). incision_coef a by.cells by.k d) (area_is words c (omega (arith, d.long))) (distance_is c l))
      (ap (λ (r : ℕ). drained_to c r x by.water) (leads net d c l))

  -- as `settle_cell` leaves it
  pub settled_cell : (c : ℕ) → c < length recv → (out : List Float) (own : Float) {next : List Float} → next ≡ set out c (cut_by_word by words c own (get_or out (receiver_in by.width c words) nan))
      → next ≡ set out c (cut_down by (areas_in words) recv c own (get_or out (get_or recv c 0) nan))
  settled_cell c l out own e = e ∙ ap (set out c) (ap (λ (r : ℕ). cut_by_word by words c own (get_or out r nan)) (leads net d c l) ∙ by_word c l own _)
