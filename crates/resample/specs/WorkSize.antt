-- The working grid of a map: the map's own sides where the longest fits, else both scaled by max_res / longest in
-- binary32, never below 1.
use Rattle.std.specs.Prelude.{ℕ, max, ◌≤◌, ◌≡◌, false, cond, leb, Float}
use Rattle.std.specs.Float.{binary32}
use Rattle.std.specs.Float.Ieee.{mul, div, to_unsigned}
use Rattle.answers.specs.Outcome.{Outcome, gives, refused}
use Rattle.floats.specs.Stand.{round_of, whole}
use Rattle.grid.specs.Sides.{bad_sides}
use Rattle.grid.specs.declared.Sides.{Sides}

-- one side: (side × coef).round(), at least 1
unfoldable pub scaled_side : Float → ℕ → ℕ
scaled_side coef side = max (to_unsigned 64 (round_of (mul binary32 (whole side) coef))) 1

unfoldable pub work_size : ℕ → ℕ → ℕ → Sides
unfolding scaled_side
work_size w h res =
    let coef = div binary32 (whole res) (whole (max w h)) in
    cond (leb (max w h) res) (record { w = w; h = h }) (record { w = scaled_side coef w; h = scaled_side coef h })

-- the answer of `work_size`: the working sides, or 1: a side outside 1 to 4,096
abbrev pub work_answer : ℕ → ℕ → ℕ → Outcome Sides
work_answer w h res = cond (bad_sides w h) (refused 1) (gives (work_size w h res))

-- dw and dh are the sides of a reduced grid, each from 1 to the full side w or h, which is at most 4,096
pub record Within (w h dw dh : ℕ) : Type 0 where
  pub wide : w ≤ 4096
  pub high : h ≤ 4096
  pub dw_low : 1 ≤ dw
  pub dw_high : dw ≤ w
  pub dh_low : 1 ≤ dh
  pub dh_high : dh ≤ h

-- For sides 1 to 4,096 the working sides are at least 1 and at most the full ones, whatever the working side asked for.
-- Proved in proofs/WorkLaws.antt.
abbrev pub WorkWithin : Type 0
WorkWithin = (w h res : ℕ) → bad_sides w h ≡ false → Within w h (work_size w h res).w (work_size w h res).h
