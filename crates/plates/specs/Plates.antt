-- Document 01, 'Plates on the wall': the 13 plates as one list. Each is stated of the definitions that the calls'
-- contracts name, with the call's answer.
use Rattle.std.specs.Prelude.{ℕ, ◌≡◌, List, [], ◌∷◌, map, get_or, replicate, Float}
use Rattle.std.specs.Float.{nan, binary32}
use Rattle.std.specs.Float.Ieee.{of_bits}
use Rattle.drainage.specs.Routing.{order_on, receivers_on, spill_on, areas_on}
use Rattle.floats.specs.Stand.{whole}
use Rattle.answers.specs.Outcome.{Outcome, gives, refused, refused_at}
use Rattle.generators.specs.Marks.{fresh}
use Rattle.drainage.specs.Ground.{grid_ground, square_land}
use Rattle.flow.specs.Route.{lent_of, route_answer}
use Rattle.fluvial_erosion.specs.Incise.{incise_refusal, incise_answer, incised}
use Rattle.fluvial_erosion.specs.declared.FluvialParams.{FluvialParams}
use Rattle.thermal_erosion.specs.SlidePass.{slide_refusal, pass_answer, pass_of}
use Rattle.thermal_erosion.specs.declared.ThermalParams.{ThermalParams}
use Rattle.resample.specs.WorkSize.{work_answer}
use Rattle.resample.specs.Blocks.{downsample_answer, downsample_result}
use Rattle.bilinear.specs.Samples.{bilinear_answer}
use Rattle.upsample.specs.Samples.{add_answer, add_heights}

-- One plate: what a call gives for the input, and the result on the wall.
infixl 20 ◌⇒◌
pub data Plate : Type 1 where
  ◌⇒◌ : {A : Type 0} → A → A → Plate

abbrev pub Holds : Plate → Type 0
Holds (given ⇒ result) = given ≡ result

abbrev pub AllHold : List Plate → Type 0
AllHold [] = Unit
AllHold (p ∷ ps) = Holds p × AllHold ps

-- the numbers of the table: whole ones, and those with a fraction by their bits
abbrev pub wholes : List ℕ → List Float
wholes = map whole

abbrev pub ¼ : Float
¼ = of_bits binary32 0x3e80_0000

abbrev pub ½ : Float
½ = of_bits binary32 0x3f00_0000

abbrev pub ¾ : Float
¾ = of_bits binary32 0x3f40_0000

abbrev pub 1½ : Float
1½ = of_bits binary32 0x3fc0_0000

abbrev pub 2½ : Float
2½ = of_bits binary32 0x4020_0000

-- what a call answers, and what the slice that it writes then holds
abbrev pub Left : Type 0
Left = Outcome (Unit {0}) × List Float

-- a slice of n values as it is lent to a call: every value is a NaN
abbrev pub lent_slice : ℕ → List Float
lent_slice n = replicate n nan

-- 3 × 3 heights, water 0: the answer and the order, with the receiver of a cell
abbrev pub routed : List ℕ → ℕ → (Outcome (Unit {0}) × List ℕ) × ℕ
routed heights cell =
    let hs : List Float = wholes heights in
    let zeros : List ℕ = replicate 9 0 in (
      (route_answer 3 3 hs (whole 0) (lent_of hs zeros zeros (lent_slice 9) (lent_slice 9) zeros zeros), order_on (grid_ground 3 3 (square_land (whole 0))) hs),
      get_or (receivers_on (grid_ground 3 3 (square_land (whole 0))) hs) cell 0,
    )

-- the same as `routed`, with the cell's spill height and another cell's area besides
abbrev pub drained : List ℕ → ℕ → ℕ → ((Outcome (Unit {0}) × List ℕ) × ℕ) × (Float × Float)
drained heights cell other =
    let hs : List Float = wholes heights in
    (routed heights cell, (get_or (spill_on (grid_ground 3 3 (square_land (whole 0))) hs) cell nan, get_or (areas_on (grid_ground 3 3 (square_land (whole 0))) hs) other nan))

-- 1 × 1: a height, water 0, k 1, an uplift
abbrev pub incise : ℕ → Float → Left
incise height uplift =
    let hs : List Float = wholes (height ∷ []) in
    let p : FluvialParams = record { k = whole 1; uplift = uplift; water_level = whole 0 } in
    let own : List ℕ = 0 ∷ [] in
    (incise_answer 1 1 hs p own own 1 1, incise_refusal 1 1 hs p own own 1 1 (λ _. lent_slice 1) (λ _ _. lent_slice 1) (incised 1 1 hs p own own))

-- 1 0 (2 × 1): a threshold, strength 0.5, a water level; reported from 0 to 1 from the fresh record, and never stopped
abbrev pub slide : Float → ℕ → Left
slide threshold water =
    let hs : List Float = wholes (1 ∷ 0 ∷ []) in
    let p : ThermalParams = record { threshold = threshold; strength = ½; water_level = whole water } in (
      slide_refusal 2 1 hs 2 p (whole 0) (whole 1) fresh refused refused_at (pass_answer (pass_of 2 1 p hs (whole 0) (whole 1) 0 fresh)),
      slide_refusal 2 1 hs 2 p (whole 0) (whole 1) fresh (λ _. lent_slice 2) (λ _ _. lent_slice 2) (pass_of 2 1 p hs (whole 0) (whole 1) 0 fresh).out,
    )

-- 1 3 5 (3 × 1) to 2 × 1
abbrev pub downsample : Left
downsample = (downsample_answer (wholes (1 ∷ 3 ∷ 5 ∷ [])) 3 1 2 2 1, downsample_result (wholes (1 ∷ 3 ∷ 5 ∷ [])) 3 1 (lent_slice 2) 2 1)

-- 0 4 (2 × 1) to 0 0 0 0 (4 × 1)
abbrev pub add : Left
add =
    let map : List Float = wholes (0 ∷ 0 ∷ 0 ∷ 0 ∷ []) in
    let delta : List Float = wholes (0 ∷ 4 ∷ []) in
    (add_answer map 4 1 delta 2 1, add_heights map 4 1 delta 2 1)

-- the table, line by line
abbrev pub plates : List Plate
plates =
    (drained (5 ∷ 5 ∷ 5 ∷ 5 ∷ 1 ∷ 4 ∷ 5 ∷ 5 ∷ 5 ∷ []) 4 5 ⇒ (((gives tt, 5 ∷ 4 ∷ 0 ∷ 1 ∷ 2 ∷ 3 ∷ 6 ∷ 7 ∷ 8 ∷ []), 5), (whole 4, whole 2)))
    ∷ (routed (3 ∷ 4 ∷ 9 ∷ 9 ∷ 10 ∷ 9 ∷ 9 ∷ 9 ∷ 9 ∷ []) 4 ⇒ ((gives tt, 0 ∷ 1 ∷ 2 ∷ 3 ∷ 5 ∷ 6 ∷ 7 ∷ 8 ∷ 4 ∷ []), 1))
    ∷ (incise 1 (whole 0) ⇒ (gives tt, ½ ∷ []))
    ∷ (incise 1 ½ ⇒ (gives tt, ¾ ∷ []))
    ∷ (incise 0 ½ ⇒ (gives tt, whole 0 ∷ []))
    ∷ (slide ½ 1 ⇒ (gives tt, ¾ ∷ ¼ ∷ []))
    ∷ (slide (whole 1) 1 ⇒ (gives tt, whole 1 ∷ whole 0 ∷ []))
    ∷ (slide ½ 2 ⇒ (gives tt, whole 1 ∷ whole 0 ∷ []))
    ∷ (work_answer 4 3 2 ⇒ gives (record { w = 2; h = 2 }))
    ∷ (work_answer 513 513 512 ⇒ gives (record { w = 512; h = 512 }))
    ∷ (downsample ⇒ (gives tt, wholes (2 ∷ 5 ∷ [])))
    ∷ (add ⇒ (gives tt, wholes (0 ∷ 1 ∷ 3 ∷ 4 ∷ [])))
    ∷ (bilinear_answer (wholes (1 ∷ 2 ∷ 3 ∷ 4 ∷ [])) 1½ ½ 2 2 ⇒ gives 2½)
    ∷ []

-- All 13 hold. Proved in proofs/PlateLaws.antt.
abbrev pub AllPlates : Type 0
AllPlates = AllHold plates
