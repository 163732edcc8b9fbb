-- Worked examples of document 02's cards, in the form of the plates.
use Rattle.std.specs.Prelude.{ℕ, ◌*◌, Bool, true, false, List, [], ◌∷◌, map, Float}
use Rattle.std.specs.Float.{binary32}
use Rattle.std.specs.Float.Ieee.{of_bits}
use Rattle.floats.specs.Stand.{whole}
use Rattle.answers.specs.Outcome.{gives, refused, refused_at}
use Rattle.generators.specs.Marks.{fresh}
use Rattle.generators.specs.declared.Progress.{Progress}
use Rattle.thermal_erosion.specs.SlidePass.{Pass, pass_of, bad_pass, pass_answer}
use Rattle.thermal_erosion.specs.OverPass.{pass_over, bad_over, pass_refusal}
use Rattle.thermal_erosion.specs.declared.ThermalParams.{ThermalParams}
use Rattle.plates.specs.Plates.{Plate, ◌⇒◌, AllHold, Left, wholes, lent_slice, ½}

abbrev pub floats : List ℕ → List Float
floats = map (of_bits binary32)

-- Card 5. What a call on the pass s of w × h heights leaves, the record being fresh before it: its answer, its result
-- slice and the record; 4 applies if `bad`.
abbrev pub left : ℕ → ℕ → List Float → Bool → Pass → Left × Progress
left w h hs bad s = (
  (
    pass_refusal w h hs (w * h) bad refused refused_at (pass_answer s),
    pass_refusal w h hs (w * h) bad (λ _. lent_slice (w * h)) (λ _ _. lent_slice (w * h)) s.out,
  ),
  pass_refusal w h hs (w * h) bad (λ _. fresh) (λ _ _. fresh) s.marks,
)

-- `slide_pass_over`: w × h heights, eight thresholds in scan order, strength 0.5, water 0, reported from 0 to 1, S
abbrev pub slid_over : ℕ → ℕ → List ℕ → List ℕ → ℕ → Left × Progress
slid_over w h heights thresholds stop =
    let hs : List Float = wholes heights in
    let eight : List Float = wholes thresholds in
    left w h hs (bad_over eight ½ (whole 0) (whole 0) (whole 1) fresh) (pass_over w h eight ½ (whole 0) hs (whole 0) (whole 1) stop fresh)

-- `slide_pass` on 4 3 / 2 1: a threshold, and all else as above; never stopped
abbrev pub slid : ℕ → Left × Progress
slid threshold =
    let hs : List Float = wholes (4 ∷ 3 ∷ 2 ∷ 1 ∷ []) in
    let p : ThermalParams = record { threshold = whole threshold; strength = ½; water_level = whole 0 } in
    left 2 2 hs (bad_pass p (whole 0) (whole 1) fresh) (pass_of 2 2 p hs (whole 0) (whole 1) 0 fresh)

-- the record after so many questions, the last of them at p
abbrev pub asked : ℕ → Float → Bool → Progress
asked questions p stopped = record { last = p; asked = questions; stopped = stopped }

-- 4 3 / 2 1, where only toward E, S and SE a threshold is below a difference: to the end, stopped by the first
-- question, and refused for a threshold of 97
-- 21 18 15 / 12 24 9 / 6 3 0, where the middle cell exceeds each of its thresholds by 1: it loses 0.5, and each
-- neighbour gains a sixteenth
-- `slide_pass` with threshold 1, whose corners have `SQRT_2`, with 16, and refused with 17
abbrev pub slides : List Plate
slides =
    (slid_over 2 2 (4 ∷ 3 ∷ 2 ∷ 1 ∷ []) (96 ∷ 96 ∷ 96 ∷ 96 ∷ 0 ∷ 96 ∷ 1 ∷ 2 ∷ []) 0 ⇒ ((gives tt, floats (0x4060_0000 ∷ 0x402a_aaab ∷ 0x3fd5_5556 ∷ 0x400a_aaaa ∷ [])), asked 2 ½ false))
    ∷ (slid_over 2 2 (4 ∷ 3 ∷ 2 ∷ 1 ∷ []) (96 ∷ 96 ∷ 96 ∷ 96 ∷ 0 ∷ 96 ∷ 1 ∷ 2 ∷ []) 1 ⇒ ((refused 21, floats (0x4060_0000 ∷ 0x402a_aaab ∷ 0x400a_aaab ∷ 0x3fd5_5555 ∷ [])), asked 1 (whole 0) true))
    ∷ (slid_over 2 2 (4 ∷ 3 ∷ 2 ∷ 1 ∷ []) (96 ∷ 96 ∷ 96 ∷ 96 ∷ 0 ∷ 96 ∷ 1 ∷ 97 ∷ []) 0 ⇒ ((refused 4, lent_slice 4), fresh))
    ∷ (slid_over 3 3 (21 ∷ 18 ∷ 15 ∷ 12 ∷ 24 ∷ 9 ∷ 6 ∷ 3 ∷ 0 ∷ []) (2 ∷ 5 ∷ 8 ∷ 11 ∷ 14 ∷ 17 ∷ 20 ∷ 23 ∷ []) 0 ⇒ ((gives tt, floats (0x41a8_8000 ∷ 0x4190_8000 ∷ 0x4171_0000 ∷ 0x4141_0000 ∷ 0x41bc_0000 ∷ 0x4111_0000 ∷ 0x40c2_0000 ∷ 0x4044_0000 ∷ 0x3d80_0000 ∷ [])), asked 3 (of_bits binary32 0x3f2a_aaab) false))
    ∷ (slid 1 ⇒ ((gives tt, floats (0x404d_413d ∷ 0x4020_0000 ∷ 0x4013_9fea ∷ 0x3ffe_3db4 ∷ [])), asked 2 ½ false))
    ∷ (slid 16 ⇒ ((gives tt, wholes (4 ∷ 3 ∷ 2 ∷ 1 ∷ [])), asked 2 ½ false))
    ∷ (slid 17 ⇒ ((refused 4, lent_slice 4), fresh))
    ∷ []

-- All of them hold.
abbrev pub SlideExamples : Type 0
SlideExamples = AllHold slides
