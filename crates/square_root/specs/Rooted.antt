-- What is proved of a root: the bracket by squares of whole numbers, and the contract of the call `root`.
use Rattle.std.specs.declared.result.Result.{Result}
use Rattle.answers.specs.declared.Refusal.{Refusal}
use Rattle.std.specs.Prelude.{◌≡◌, true, false, ℕ, ◌+◌, ◌-◌, ◌*◌, ◌^◌, ◌≤◌, ◌<◌, pos, Float}
use Rattle.std.specs.Float.{fin}
use Rattle.std.specs.Float.Ieee.{lt}
use Rattle.std.specs.Float.Ieee.Exact.{HasValue}
use Rattle.answers.specs.Outcome.{gives, answer_of}
use Rattle.square_root.specs.Root.{root_answer}

-- r is the float nearest to the root of x: x is X / 4 ^ 150 and r is q * 2 ^ j / 2 ^ 150, where q has 24 binary digits
-- (or is 2 ^ 24), j is the place of the 24th binary digit of x's root, and x lies strictly between the squares of the
-- numbers half a unit in that place below and above r
pub record NearestRoot (x r : Float) : Type 0 where
  pub q : ℕ
  pub j : ℕ
  pub X : ℕ
  pub input : HasValue x false X (2 ^ 300)
  pub output : HasValue r false (q * 2 ^ j) (2 ^ 150)
  pub low : 2 ^ 23 ≤ q
  pub high : q ≤ 2 ^ 24
  pub place : 2 ^ 46 * 4 ^ j ≤ X
  pub above : (2 * q - 1) * (2 * q - 1) * 4 ^ j < 4 * X
  pub below : 4 * X < (2 * q + 1) * (2 * q + 1) * 4 ^ j

-- The contract of `root`: its answer is `root_answer x`, and every root that it gives of a number above 0 is the nearest
-- float (`NearestRoot`).
pub record Rooted (x : Float) (r : Result Float Refusal) : Type 0 where
  pub answer : answer_of r ≡ root_answer x
  pub bracket : (v : Float) → answer_of r ≡ gives v → lt (fin false 0 (pos 0)) x ≡ true → NearestRoot x v
