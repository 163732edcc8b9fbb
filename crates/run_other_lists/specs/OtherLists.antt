-- An example that meets every premise of demand 3 with lists that are not the flood's: a 4 × 3 map whose two inner cells
-- drain one into the other, in the first iteration cell 5 into 6 and on into 10, in the second 6 into 5 and on into 9.
-- Receivers, heights and counts are those of the published source (oracle/src/plates.rs).
use Rattle.std.specs.Prelude.{ℕ, zero, suc, ◌≡◌, List, [], ◌∷◌, map, Float}
use Rattle.std.specs.Float.{binary32}
use Rattle.std.specs.Float.Ieee.{of_bits}
use Rattle.floats.specs.Stand.{whole}
use Rattle.float_order.specs.Fit.{Fit}
use Rattle.drainage.specs.Ways.{WorkList}
use Rattle.drainage.specs.Routing.{order_on, receivers_on}
use Rattle.run_machine.specs.Run.{Ran, ours, lent, run_by}
use Rattle.run_machine.specs.Demand3.{ground_of, RunRoutes}
use Rattle.run_settings.specs.Refusals.{fluvial_refusal}
use Rattle.run_settings.specs.declared.FluvialSettings.{FluvialSettings}

-- water level 0, strength 1, talus 0.5, uplift 0.25, two iterations, working side 512
abbrev pub settings : FluvialSettings
settings =
    record {
      water_level = of_bits binary32 0;
      strength = of_bits binary32 0x3f80_0000;
      talus = of_bits binary32 0x3f00_0000;
      uplift = of_bits binary32 0x3e80_0000;
      iterations = 2;
      work_res = 512;
    }

-- 5 5 8 6 / 3 4 1 8 / 6 4 2 8
abbrev pub heights : List Float
heights = map whole (5 ∷ 5 ∷ 8 ∷ 6 ∷ 3 ∷ 4 ∷ 1 ∷ 8 ∷ 6 ∷ 4 ∷ 2 ∷ 8 ∷ [])

-- the other run's lists
abbrev pub lists : ℕ → List ℕ
lists zero = 0 ∷ 10 ∷ 1 ∷ 6 ∷ 2 ∷ 3 ∷ 5 ∷ 4 ∷ 7 ∷ 8 ∷ 9 ∷ 11 ∷ []
lists (suc it) = 11 ∷ 10 ∷ 9 ∷ 8 ∷ 7 ∷ 5 ∷ 6 ∷ 4 ∷ 3 ∷ 2 ∷ 1 ∷ 0 ∷ []

-- the heights that the second iteration routes
abbrev pub second : List Float
second =
    map (of_bits binary32)
    (0x4094_f323 ∷ 0x408c_f598 ∷ 0x40a5_643e ∷ 0x409c_d6a7 ∷ 0x4090_404f ∷ 0x4081_1036 ∷ 0x411a_eed0 ∷ 0x40a5_643e ∷ 0x40a4_aa8b ∷ 0x406b_a34b ∷ 0x40a6_96a9 ∷ 0x40ab_c100 ∷ [])

-- the receivers and the order of a routing of the run
abbrev pub receivers_there : List Float → List ℕ
receivers_there = receivers_on (ground_of 4 3 settings 0 heights)

abbrev pub order_there : List Float → List ℕ
order_there = order_on (ground_of 4 3 settings 0 heights)

-- what the run ends with
abbrev pub ended : Ran
ended =
    record {
      number = 0;
      incisions = 2;
      passes = 2;
      questions = 8;
      map =
          map (of_bits binary32)
          (0x409a_2b10 ∷ 0x409b_f997 ∷ 0x40b3_1a3f ∷ 0x40aa_5de6 ∷ 0x4095_8d8e ∷ 0x4094_1293 ∷ 0x40f0_0d87 ∷ 0x40b3_1a3f ∷ 0x40a1_2a8a ∷ 0x4097_5d91 ∷ 0x40aa_cda4 ∷ 0x40b7_e29a ∷ []);
    }

-- Every premise of demand 3 holds of the example, with lists that are not the flood's, and both runs end alike.
pub record OtherLists : Type 0 where
  -- the premises of demand 3
  pub fit : Fit heights
  pub accepted : fluvial_refusal 4 3 settings heights ≡ 0
  pub premise : (it : ℕ) (routed : List Float) → RunRoutes 4 3 settings 0 heights (lent lists) it routed → WorkList 12 (receivers_there routed) (lists it)
  -- both iterations route, an inner cell drains into the other, and the flood's order is not the list
  pub first_routes : RunRoutes 4 3 settings 0 heights (lent lists) 0 heights
  pub second_routes : RunRoutes 4 3 settings 0 heights (lent lists) 1 second
  pub first_receivers_lem : receivers_there heights ≡ (0 ∷ 1 ∷ 2 ∷ 3 ∷ 4 ∷ 6 ∷ 10 ∷ 7 ∷ 8 ∷ 9 ∷ 10 ∷ 11 ∷ [])
  pub second_receivers_lem : receivers_there second ≡ (0 ∷ 1 ∷ 2 ∷ 3 ∷ 4 ∷ 9 ∷ 5 ∷ 7 ∷ 8 ∷ 9 ∷ 10 ∷ 11 ∷ [])
  pub first_other : order_there heights ≡ lists 0 → ⊥
  pub second_other : order_there second ≡ lists 1 → ⊥
  -- the heights change in the first iteration, and again in the second
  pub first_change : second ≡ heights → ⊥
  pub second_change : ended.map ≡ second → ⊥
  -- the run along the lists, by computation, and ours, by demand 3
  pub lent_ends : run_by 4 3 settings 0 (lent lists) heights ≡ ended
  pub ours_ends : run_by 4 3 settings 0 ours heights ≡ ended
