-- Preconditions of the inner functions.
use Rattle.std.specs.Prelude.{ℕ, ◌*◌, ◌≤◌, ◌≡◌}

-- a grid of len values with sides 1 to 4,096
pub record Grid (w h len : ℕ) : Type 0 where
  pub w_low : 1 ≤ w
  pub w_high : w ≤ 4096
  pub h_low : 1 ≤ h
  pub h_high : h ≤ 4096
  pub size : len ≡ w * h
