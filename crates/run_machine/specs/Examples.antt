-- Examples that fix the constants, the fractions and the parts of a plan, on a working grid whose longest side is 600,
-- and small runs. The values are those of the published source (oracle/src/plates.rs).
use Rattle.std.specs.Prelude.{ℕ, ◌≡◌, Bool, true, false, List, [], ◌∷◌, map, Float}
use Rattle.std.specs.Float.{binary32}
use Rattle.std.specs.Float.Ieee.{of_bits}
use Rattle.floats.specs.Stand.{whole}
use Rattle.drainage.specs.Ground.{square_land}
use Rattle.run_machine.specs.Plan.{scale_of, k_of, threshold_of, passes_of, fluvial_plan, thermal_passes, thermal_params}
use Rattle.run_machine.specs.Machine.{Course}
use Rattle.run_machine.specs.Run.{Ran, ours, lent, fluvial_begins, fluvial_course, thermal_course, run_by, thermal_run}
use Rattle.run_settings.specs.declared.FluvialSettings.{FluvialSettings}
use Rattle.run_settings.specs.declared.ThermalSettings.{ThermalSettings}

abbrev pub floats : List ℕ → List Float
floats = map (of_bits binary32)

-- water level 0.12, strength 0.6, talus 0.2, uplift 0.25, as many iterations as given
abbrev pub fluvial : ℕ → FluvialSettings
fluvial iterations =
    record {
      water_level = of_bits binary32 0x3df5_c28f;
      strength = of_bits binary32 0x3f19_999a;
      talus = of_bits binary32 0x3e4c_cccd;
      uplift = of_bits binary32 0x3e80_0000;
      iterations = iterations;
      work_res = 600;
    }

abbrev pub thermal : ℕ → ThermalSettings
thermal iterations =
    record {
      water_level = of_bits binary32 0x3df5_c28f;
      talus = of_bits binary32 0x3e4c_cccd;
      strength = of_bits binary32 0x3f19_999a;
      iterations = iterations;
      work_res = 600;
    }

-- the courses of three fluvial and of five thermal iterations, with S 7
abbrev pub fluvial_example : Course
fluvial_example = fluvial_course 300 600 (fluvial_plan 300 600 (fluvial 3)) 7 ours

abbrev pub thermal_example : Course
thermal_example = thermal_course 300 600 (thermal 5) 7

-- what a course holds besides its incision and its fractions
pub record Parts : Type 0 where
  pub sides : List ℕ
  pub iterations : ℕ
  pub passes : ℕ
  pub cutting : Bool
  pub thresholds : List Float
  pub strength : Float
  pub water : Float
  pub stop : ℕ

abbrev pub parts_of : Course → Parts
parts_of c =
    record {
      sides = c.w ∷ c.h ∷ [];
      iterations = c.iterations;
      passes = c.passes;
      cutting = c.cutting;
      thresholds = c.thresholds;
      strength = c.strength;
      water = c.water;
      stop = c.stop;
    }

-- the threshold of talus 0.2 toward the sides and toward the corners, as in the directions 0 to 8
abbrev pub thresholds : List Float
thresholds = floats (0x3c86_37bd ∷ 0x3cbd_d002 ∷ 0x3c86_37bd ∷ 0x3cbd_d002 ∷ 0x3c86_37bd ∷ 0x3c86_37bd ∷ 0x3cbd_d002 ∷ 0x3c86_37bd ∷ 0x3cbd_d002 ∷ [])

-- What settings become on the working grid, and the fractions p of the questions of a run: of each opening, of the
-- beginning of each pass of a fluvial run, by iteration and pass, and of each pass of a thermal run.
pub record PlanExamples : Type 0 where
  pub scale : (scale_of 600 300 ∷ scale_of 300 600 ∷ []) ≡ floats (0x3f96_0000 ∷ 0x3f96_0000 ∷ [])
  -- strength 0.6
  pub k : k_of (of_bits binary32 0x3f19_999a) (scale_of 300 600) ≡ of_bits binary32 0x40b4_0000
  -- talus 0.2, 0.25 and 0.4
  pub threshold :
      (threshold_of (of_bits binary32 0x3e4c_cccd) (scale_of 300 600) ∷ threshold_of (of_bits binary32 0x3e80_0000) (scale_of 300 600) ∷ threshold_of (of_bits binary32 0x3ecc_cccd) (scale_of 300 600) ∷ [])
      ≡ floats (0x3c86_37bd ∷ 0x3c6b_edf9 ∷ 0x3c16_feb5 ∷ [])
  pub passes :
      (passes_of 0 (scale_of 300 600) ∷ passes_of 1 (scale_of 300 600) ∷ passes_of 5 (scale_of 300 600) ∷ passes_of 5 (scale_of 512 1) ∷ passes_of 4096 (scale_of 4096 1) ∷ [])
      ≡ (1 ∷ 2 ∷ 6 ∷ 5 ∷ 32768 ∷ [])
  pub plan :
      fluvial_plan 300 600 (fluvial 3)
      ≡ record {
        iterations = 3;
        passes = 2;
        cuts = record { k = of_bits binary32 0x40b4_0000; uplift = of_bits binary32 0x3e80_0000; water_level = of_bits binary32 0x3df5_c28f };
        slides = record { threshold = of_bits binary32 0x3c86_37bd; strength = of_bits binary32 0x3f00_0000; water_level = of_bits binary32 0x3df5_c28f };
        land = square_land (of_bits binary32 0x3df5_c28f);
      }
  pub no_iterations : ((fluvial_plan 300 600 (fluvial 0)).iterations ∷ thermal_passes 300 600 (thermal 0) ∷ []) ≡ (1 ∷ 1 ∷ [])
  pub thermal_params_lem :
      thermal_params 300 600 (thermal 5)
      ≡ record { threshold = of_bits binary32 0x3c86_37bd; strength = of_bits binary32 0x3f19_999a; water_level = of_bits binary32 0x3df5_c28f }
  pub fluvial_parts :
      parts_of fluvial_example
      ≡ record {
        sides = 300 ∷ 600 ∷ [];
        iterations = 3;
        passes = 2;
        cutting = true;
        thresholds = thresholds;
        strength = of_bits binary32 0x3f00_0000;
        water = of_bits binary32 0x3df5_c28f;
        stop = 7;
      }
  pub thermal_parts :
      parts_of thermal_example
      ≡ record {
        sides = 300 ∷ 600 ∷ [];
        iterations = 6;
        passes = 1;
        cutting = false;
        thresholds = thresholds;
        strength = of_bits binary32 0x3f19_999a;
        water = of_bits binary32 0x3df5_c28f;
        stop = 7;
      }
  pub openings : map fluvial_example.opening (0 ∷ 1 ∷ 2 ∷ []) ≡ floats (0 ∷ 0x3eaa_aaab ∷ 0x3f2a_aaab ∷ [])
  pub first_passes : map (λ it. fluvial_example.begins it 0) (0 ∷ 1 ∷ 2 ∷ []) ≡ floats (0x3e2a_aaab ∷ 0x3f00_0000 ∷ 0x3f55_5555 ∷ [])
  pub second_passes : map (λ it. fluvial_example.begins it 1) (0 ∷ 1 ∷ 2 ∷ []) ≡ floats (0x3e80_0000 ∷ 0x3f15_5555 ∷ 0x3f6a_aaab ∷ [])
  pub of_three_passes : fluvial_begins 3 3 1 1 ≡ of_bits binary32 0x3f0e_38e3
  pub thermal_passes_lem :
      map (λ it. thermal_example.begins it 0) (0 ∷ 1 ∷ 2 ∷ 3 ∷ 4 ∷ 5 ∷ [])
      ≡ floats (0 ∷ 0x3e2a_aaab ∷ 0x3eaa_aaab ∷ 0x3f00_0000 ∷ 0x3f2a_aaab ∷ 0x3f55_5555 ∷ [])
  -- a pass ends where the next would begin
  pub thermal_ends : map (λ it. thermal_example.begins it 1) (0 ∷ 4 ∷ []) ≡ map (λ it. thermal_example.begins it 0) (1 ∷ 5 ∷ [])

-- a run of one iteration with strength 1 and uplift 0.25: its water level, its talus and its working side
abbrev pub small : Float → Float → ℕ → FluvialSettings
small water talus side =
    record {
      water_level = water;
      strength = whole 1;
      talus = talus;
      uplift = of_bits binary32 0x3e80_0000;
      iterations = 1;
      work_res = side;
    }

-- a run that finished
abbrev pub finished_with : ℕ → ℕ → ℕ → List ℕ → Ran
finished_with incisions passes questions heights =
    record { number = 0; incisions = incisions; passes = passes; questions = questions; map = floats heights }

-- 3 3 3 / 3 4 1 / 3 3 3: cell 4 drains into cell 5
abbrev pub pass : List Float
pass = map whole (3 ∷ 3 ∷ 3 ∷ 3 ∷ 4 ∷ 1 ∷ 3 ∷ 3 ∷ 3 ∷ [])

-- What small runs end with: a fluvial one with talus 0.5 on a column 8 5 1, of which the water level 6 covers two cells; a
-- thermal one of a single pass on 8 2, with talus 0.2; a reduced one on 8 6 4 1; and one on `pass`, along the flood's own
-- list and along a list that is no work list, with cell 4 before cell 5: the run goes along the list that it is lent.
pub record RunExamples : Type 0 where
  pub column : run_by 1 3 (small (whole 6) (of_bits binary32 0x3f00_0000) 512) 0 ours (map whole (8 ∷ 5 ∷ 1 ∷ [])) ≡ finished_with 1 1 4 (0x40e7_880a ∷ 0x40be_9248 ∷ 0x3f80_0000 ∷ [])
  pub slope : thermal_run 2 1 (thermal 5) 0 (map whole (8 ∷ 2 ∷ [])) ≡ finished_with 0 1 1 (0x40eb_2bfe ∷ 0x4029_a804 ∷ [])
  pub reduced :
      run_by 4 1 (small (whole 0) (of_bits binary32 0x3f00_0000) 2) 0 ours (map whole (8 ∷ 6 ∷ 4 ∷ 1 ∷ []))
      ≡ finished_with 1 1 2 (0x40db_42ca ∷ 0x40af_e6a1 ∷ 0x4099_2e50 ∷ 0x401b_a44d ∷ [])
  pub own_list :
      run_by 3 3 (small (whole 0) (whole 0) 512) 0 ours pass
      ≡ finished_with 1 1 4 (0x404c_cccd ∷ 0x404c_cccd ∷ 0x404c_cccd ∷ 0x404c_cccd ∷ 0x4086_8280 ∷ 0x3f9c_8a78 ∷ 0x404c_cccd ∷ 0x404c_cccd ∷ 0x404c_cccd ∷ [])
  pub lent_list :
      run_by 3 3 (small (whole 0) (whole 0) 512) 0 (lent (λ it. 4 ∷ 0 ∷ 1 ∷ 2 ∷ 3 ∷ 5 ∷ 6 ∷ 7 ∷ 8 ∷ [])) pass
      ≡ finished_with 1 1 4 (0x404c_cccd ∷ 0x404c_cccd ∷ 0x404c_cccd ∷ 0x404c_cccd ∷ 0x4086_6666 ∷ 0x3f9c_8a78 ∷ 0x404c_cccd ∷ 0x404c_cccd ∷ 0x404c_cccd ∷ [])
