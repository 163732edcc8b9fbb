-- A row as runs: its first cell, the inner ones in blocks, and the rest; and the rows of a grid.
use Prim.Native.Nat.{ℕ, zero, suc, ◌+◌, ◌-◌, ◌*◌, ◌^◌, ◌≤◌, ◌<◌}
use mathlib.Core.Path.{◌≡◌, refl, ◌∙◌, subst}
use mathlib.Core.List.{List}
use native.Mathlib.Nat.{mul_comm}
use native.Mathlib.Omega.{arith}
use lib.Ieee.{Float}
use Rattle.loops.proofs.LoopLaws.{at_end}
use Rattle.grid_inner.specs.Inner.{InnerRun}
use Rattle.grid_spacing.specs.declared.Distances.{Distances}
use Rattle.receiver_blocks.specs.Runs.{RunReceived}
use Rattle.receiver_blocks.proofs.OffsetLaws.{inner_inside, inner_few}
use Rattle.receiver_blocks.proofs.RunLaws.{run_join}

-- the number of a cell of a run, or of the next cell, is below m
pub run_few : (w h c n i m : ℕ) → InnerRun w h c n → i ≤ n → c < m → 2 ^ 24 < m → c + i < m
run_few w h c zero i m a l lo hi = omega arith
run_few w h c (suc n) i m a l lo hi = omega (arith, inner_inside (a.inner n (omega arith)), inner_few (a.inner n (omega arith)))

pub rows_end : (w h y : ℕ) → y ≤ h → h ≤ y → y * w ≡ w * h
rows_end w h y a b = at_end (λ (k : ℕ). k * w) refl a b ∙ mul_comm h w

module _ (ds : Distances) (w h : ℕ) (spill : List Float) (y n : ℕ) (most : 1 + n ≤ w) {r t : List ℕ} where
  -- the first cell and the inner ones
  pub row_two :
      {s : List ℕ} → RunReceived ds w h spill (0 + y * w) (0 + 1 + y * w) r s → RunReceived ds w h spill (1 + y * w) (1 + y * w + n) s t → RunReceived ds w h spill (y * w) (1 + n + y * w) r t
  row_two p q =
      let z : 0 + y * w ≡ y * w = omega arith in
      subst (λ (a : ℕ). RunReceived ds w h spill a (1 + n + y * w) r t) z (run_join ds w h spill p q (omega arith) (omega arith) (omega arith) (omega arith))

  -- and the rest
  pub row_whole : {u : List ℕ} → RunReceived ds w h spill (y * w) (1 + n + y * w) r t → RunReceived ds w h spill (1 + n + y * w) (1 + n + (w - (1 + n)) + y * w) t u
      → RunReceived ds w h spill (y * w) (w + y * w) r u
  row_whole p q = run_join ds w h spill p q refl (omega arith) (omega arith) (omega arith)
