-- What the public call `incise` answers and leaves in its result slice.
use Rattle.answers.specs.Outcome.{Answer}
use Rattle.std.specs.Prelude.{ℕ, ◌*◌, ◌≡◌, Bool, false, not, ◌||◌, cond, List, ◌++◌, length, drop, eqb, ltb, Float}
use Rattle.std.specs.Float.{binary32}
use Rattle.std.specs.Float.Ieee.{of_bits, neg}
use Rattle.std.specs.Float.Ieee.Scale.{finite}
use Rattle.answers.specs.Outcome.{Outcome, gives, refused, refused_at, answer_of, outside_of}
use Rattle.grid.specs.Sides.{bad_sides}
use Rattle.grid.specs.Heights.{first_not_finite, all_finite}
use Rattle.grid_spacing.specs.Distances.{square_distances}
use Rattle.drainage.specs.Ground.{ground_by}
use Rattle.drainage.specs.Ways.{areas_along}
use Rattle.fluvial_erosion.specs.Incision.{incised_by}
use Rattle.fluvial_erosion.specs.Along.{IncisionSlices}
use Rattle.lent_receivers.specs.Receivers.{first_bad_receiver}
use Rattle.lent_list.specs.Entries.{first_bad_entry}
use Rattle.fluvial_erosion.specs.declared.FluvialParams.{FluvialParams}

-- refusal 4: k 0 to 64, uplift -1 to 1, water level finite
abbrev pub bad_incision : FluvialParams → Bool
bad_incision p =
    let one = of_bits binary32 0x3f80_0000 in
    outside_of p.k (of_bits binary32 0) (of_bits binary32 0x4280_0000) || (outside_of p.uplift (neg one) one || not (finite p.water_level))

-- refusal 3: heights, receivers, list and result exactly n, scratch at least n
abbrev pub bad_incise_lengths : ℕ → ℕ → ℕ → ℕ → ℕ → ℕ → Bool
bad_incise_lengths n heights recv list result scratch =
    not (eqb heights n) || (not (eqb recv n) || (not (eqb list n) || (not (eqb result n) || ltb scratch n)))

-- the first refusal that applies, else `then`: 1: a side; 3: a length; 4: a setting; 5: a height; 6: a receiver; 7: the
-- list. `number n` is what refusal n gives, `at n place` what one gives that carries a cell or a position
abbrev pub incise_refusal : {A : Type 0} → ℕ → ℕ → List Float → FluvialParams → List ℕ → List ℕ → ℕ → ℕ → (ℕ → A) → (ℕ → ℕ → A) → A → A
incise_refusal w h hs p recv list result scratch number at then =
    let n = w * h in
    cond (bad_sides w h) (number 1)
    (cond (bad_incise_lengths n (length hs) (length recv) (length list) result scratch) (number 3)
    (cond (bad_incision p) (number 4)
    (cond (not (all_finite hs)) (at 5 (first_not_finite hs))
    (cond (ltb (first_bad_receiver w h recv) n) (at 6 (first_bad_receiver w h recv)) (cond (ltb (first_bad_entry n recv list) n) (at 7 (first_bad_entry n recv list)) then)))))

-- the heights incised along lent receivers and a lent list; incision does not use base level, so the ground has no base
-- cell
abbrev pub incised : ℕ → ℕ → List Float → FluvialParams → List ℕ → List ℕ → List Float
incised w h hs p recv list = incised_by (ground_by w h square_distances (λ c. false)) p recv list hs

-- the answer of `incise`: a refusal by 1 to 7, then by 22: an incised height not finite
abbrev pub incise_answer : ℕ → ℕ → List Float → FluvialParams → List ℕ → List ℕ → ℕ → ℕ → Outcome (Unit {0})
incise_answer w h hs p recv list result scratch =
    incise_refusal w h hs p recv list result scratch refused refused_at (cond (all_finite (incised w h hs p recv list)) (gives tt) (refused 22))

-- What `incise` promises of its answer r and of its two slices `before` and `after` the call, `out` for the result and
-- `area` for scratch: on refusals 1 to 7 both as they were, else the incised heights in `out`, and the areas in the
-- first n places of `area`.
pub record InciseMade (w h : ℕ) (hs : List Float) (p : FluvialParams) (recv list : List ℕ) (before : IncisionSlices) (r : Answer) (after : IncisionSlices) : Type 0 where
  pub answer : answer_of r ≡ incise_answer w h hs p recv list (length before.out) (length before.area)
  pub result :
      after.out
      ≡ incise_refusal w h hs p recv list (length before.out) (length before.area) (λ _. before.out) (λ _ _. before.out)
      (incised w h hs p recv list)
  pub areas :
      after.area
      ≡ incise_refusal w h hs p recv list (length before.out) (length before.area) (λ _. before.area) (λ _ _. before.area)
      (areas_along (w * h) recv list ++ drop (w * h) before.area)
