-- `add_upsampled`: the reduced grid, sampled bilinearly, added to the map.
use Rattle.answers.specs.Outcome.{Answer}
use Rattle.std.specs.Prelude.{ℕ, ◌*◌, ◌/◌, ◌%◌, ◌≡◌, Bool, ◌||◌, cond, List, length, get_or, Float}
use Rattle.std.specs.Float.{nan, binary32}
use Rattle.std.specs.Float.Ieee.{add}
use Rattle.answers.specs.Outcome.{Outcome, gives, refused, refused_at, answer_of}
use Rattle.loops.specs.Loops.{tabulate}
use Rattle.grid.specs.Heights.{first_not_finite, all_finite}
use Rattle.resample.specs.Blocks.{map_refusal}
use Rattle.bilinear.specs.Samples.{between, bilinear_of}
use Rattle.upsample_rows.specs.Rows.{centre_of}
pub use Rattle.bilinear.specs.Samples.{FarEdge, as_source}

-- a row of the map with the samples added: each lies dy of the way from the value in `north` to the value in `south` at
-- its column, those of the reduced rows to the north and to the south
unfoldable pub summed_row : List Float → List Float → List Float → Float → List Float
unfolding tabulate
summed_row row north south dy = tabulate (length row) (λ x. add binary32 (get_or row x nan) (between dy (get_or north x nan) (get_or south x nan)))

-- if `store`, `new` is the sums and r is true; else `new` is `old` and r tells whether every sum is finite
pub record Summed (store : Bool) (sum old : List Float) (r : Bool) (new : List Float) : Type 0 where
  pub heights : new ≡ cond store sum old
  pub good : r ≡ (store || all_finite sum)

-- cell c of the map with the reduced grid `delta`, upsampled on cell centres, added to it
abbrev pub added_at : FarEdge → List Float → ℕ → ℕ → List Float → ℕ → ℕ → ℕ → Float
added_at kind map w h delta dw dh c = add binary32 (get_or map c nan) (bilinear_of kind delta dw dh (centre_of w dw (c % w)) (centre_of h dh (c / w)))

unfoldable pub added_of : FarEdge → List Float → ℕ → ℕ → List Float → ℕ → ℕ → List Float
unfolding bilinear_of tabulate
added_of kind map w h delta dw dh = tabulate (w * h) (added_at kind map w h delta dw dh)

-- r tells whether every sum is finite; `after` is the sums if so, else the map
pub record AddedFinite (sum map : List Float) (r : Bool) (after : List Float) : Type 0 where
  pub good : r ≡ all_finite sum
  pub heights : after ≡ cond r sum map

-- the refusals of `map_refusal`, then 5 for a value of the reduced grid that is not finite, else `then`
abbrev pub add_refusal : {A : Type 0} → List Float → ℕ → ℕ → List Float → ℕ → ℕ → (ℕ → A) → (ℕ → ℕ → A) → A → A
add_refusal map w h delta dw dh number at then =
    map_refusal map w h (length delta) dw dh number at (cond (all_finite delta) then (at 5 (first_not_finite delta)))

abbrev pub add_answer : List Float → ℕ → ℕ → List Float → ℕ → ℕ → Outcome (Unit {0})
add_answer map w h delta dw dh =
    add_refusal map w h delta dw dh refused refused_at (cond (all_finite (added_of as_source map w h delta dw dh)) (gives tt) (refused 22))

-- what the map holds at the end: the sum, or on any refusal what it held
abbrev pub add_heights : List Float → ℕ → ℕ → List Float → ℕ → ℕ → List Float
add_heights map w h delta dw dh =
    add_refusal map w h delta dw dh (λ n. map) (λ n c. map) (cond (all_finite (added_of as_source map w h delta dw dh)) (added_of as_source map w h delta dw dh) map)

-- r is the answer of `add_upsampled`, and `after` is what the map holds at the end
pub record Added (map : List Float) (w h : ℕ) (delta : List Float) (dw dh : ℕ) (r : Answer) (after : List Float) : Type 0 where
  pub answer : answer_of r ≡ add_answer map w h delta dw dh
  pub heights : after ≡ add_heights map w h delta dw dh
