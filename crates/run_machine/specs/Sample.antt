-- Document 01, 'The stream': the run of its sample, one cell of height 1, and the same with S 1 and 2.
use Rattle.std.specs.Prelude.{ℕ, ◌≡◌, List, [], ◌∷◌, Float}
use Rattle.std.specs.Float.{binary32}
use Rattle.std.specs.Float.Ieee.{of_bits}
use Rattle.run_machine.specs.Run.{Ran, ours, run_by}
use Rattle.run_settings.specs.declared.FluvialSettings.{FluvialSettings}

-- water level 0, strength 1, talus 0, uplift 0, one iteration, working side 512
abbrev pub sample_settings : FluvialSettings
sample_settings =
    record {
      water_level = of_bits binary32 0;
      strength = of_bits binary32 0x3f80_0000;
      talus = of_bits binary32 0;
      uplift = of_bits binary32 0;
      iterations = 1;
      work_res = 512;
    }

abbrev pub sample_map : List Float
sample_map = of_bits binary32 0x3f80_0000 ∷ []

-- the sample's run with a stop number
abbrev pub sample_run : ℕ → Ran
sample_run stop = run_by 1 1 sample_settings stop ours sample_map

-- The sample's run ends with the printed height and counts 1 1 2; with S 1 it is stopped with height 1 and counts 0 0 1,
-- with S 2 with the incised height and counts 1 0 2.
pub record SampleRuns : Type 0 where
  pub unstopped : sample_run 0 ≡ record { number = 0; incisions = 1; passes = 1; questions = 2; map = of_bits binary32 0x3f7c_0fc1 ∷ [] }
  pub stopped_first : sample_run 1 ≡ record { number = 21; incisions = 0; passes = 0; questions = 1; map = sample_map }
  pub stopped_second : sample_run 2 ≡ record { number = 21; incisions = 1; passes = 0; questions = 2; map = of_bits binary32 0x3f7c_0fc1 ∷ [] }
