-- The table of rates: how it is filled, and what is read from it.
use Prim.Native.Nat.{ℕ, ◌≤◌, ◌<◌}
use mathlib.Core.Path.{◌≡◌, ap, ◌∙◌}
use mathlib.Core.List.{List}
use lib.ListN.{get_or, replicate}
use lib.Ieee.{Float, nan, binary32, of_bits}
use Rattle.loops.proofs.TableLaws.{filled_at}
use Rattle.loops.proofs.FillLaws.{Filling, stored}
use Rattle.floats.specs.Stand.{whole}
use Rattle.incision_rates.specs.Rate.{rate_of, rates_of}

module _ (n k : Float) (m : ℕ) where
  -- the table once it is filled
  pub table_done : {i : ℕ} {rates : List Float} → Filling (λ j. rate_of (whole j) n k) i (replicate 1024 (of_bits binary32 0)) rates → i ≤ m → m ≤ i → rates ≡ rates_of m n k
  unfolding rates_of
  table_done p a b = stored p a b

  pub rates_at : (i : ℕ) → i < m → get_or (rates_of m n k) i nan ≡ rate_of (whole i) n k
  unfolding rates_of
  rates_at i l = filled_at (λ j. rate_of (whole j) n k) m (replicate 1024 (of_bits binary32 0)) i nan l

  -- as the code reads it
  pub rates_read : (rates : List Float) (i : ℕ) → rates ≡ rates_of m n k → i < m → get_or rates i nan ≡ rate_of (whole i) n k
  rates_read rates i e l = ap (λ (t : List Float). get_or t i nan) e ∙ rates_at i l
