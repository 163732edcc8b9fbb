-- Document 01, 'Whole runs': the settings converted to the working grid.
use Rattle.std.specs.Prelude.{ℕ, max, ◌≡◌, Float}
use Rattle.std.specs.Float.{binary32}
use Rattle.std.specs.Float.Ieee.{of_bits, sub, mul, div, to_unsigned}
use Rattle.floats.specs.Stand.{ceil_of, whole}
use Rattle.drainage.specs.Ground.{square_land}
use Rattle.drainage.specs.declared.Land.{Land}
use Rattle.fluvial_erosion.specs.declared.FluvialParams.{FluvialParams}
use Rattle.thermal_erosion.specs.declared.ThermalParams.{ThermalParams}
use Rattle.run_settings.specs.declared.FluvialSettings.{FluvialSettings}
use Rattle.run_settings.specs.declared.ThermalSettings.{ThermalSettings}

-- The source's REFERENCE_RES, 512: the longest side of the map that settings refer to. STRENGTH_MAX, 8, and TALUS_MAX,
-- 0.03: k of strength 1 and the threshold of talus 0 on that map. TALUS_STRENGTH, 0.5: the talus strength of fluvial
-- runs.
abbrev pub reference_res : Float
reference_res = of_bits binary32 0x4400_0000

abbrev pub strength_max : Float
strength_max = of_bits binary32 0x4100_0000

abbrev pub talus_max : Float
talus_max = of_bits binary32 0x3cf5_c28f

abbrev pub talus_strength : Float
talus_strength = of_bits binary32 0x3f00_0000

-- scale = longest working side / 512
abbrev pub scale_of : ℕ → ℕ → Float
scale_of w h = div binary32 (whole (max w h)) reference_res

-- k = 8 × strength × scale
abbrev pub k_of : Float → Float → Float
k_of strength scale = mul binary32 (mul binary32 strength_max strength) scale

-- threshold = 0.03 × (1 - talus)² / scale
abbrev pub threshold_of : Float → Float → Float
threshold_of talus scale =
    let steep = sub binary32 (of_bits binary32 0x3f80_0000) talus in
    div binary32 (mul binary32 talus_max (mul binary32 steep steep)) scale

-- passes: ceil(iterations × scale), at least 1
abbrev pub passes_of : ℕ → Float → ℕ
passes_of iterations scale = max (to_unsigned 64 (ceil_of (mul binary32 (whole iterations) scale))) 1

-- the land of a fluvial run
abbrev pub land_of : FluvialSettings → Land
land_of s = square_land s.water_level

-- What a fluvial run does on its working grid: `iterations` times a routing on `land`, an incision by `cuts` and then
-- `passes` talus passes by `slides`, all three by the distances of `land`.
pub record Plan : Type 0 where
  pub iterations : ℕ
  pub passes : ℕ
  pub cuts : FluvialParams
  pub slides : ThermalParams
  pub land : Land

-- the parameters of talus passes on a w × h working grid
abbrev pub slides_of : ℕ → ℕ → Float → Float → Float → ThermalParams
slides_of w h talus strength water = record { threshold = threshold_of talus (scale_of w h); strength = strength; water_level = water }

-- the plan of a fluvial run on a w × h working grid: 1 in place of iterations for the number of its passes, talus
-- strength 0.5; iterations 0 counts as 1
abbrev pub fluvial_plan : ℕ → ℕ → FluvialSettings → Plan
fluvial_plan w h s =
    let scale = scale_of w h in
    record {
      iterations = max s.iterations 1;
      passes = passes_of 1 scale;
      cuts = record { k = k_of s.strength scale; uplift = s.uplift; water_level = s.water_level };
      slides = slides_of w h s.talus talus_strength s.water_level;
      land = land_of s;
    }

-- Routing, incision and talus go by the water level of the settings.
pub record OneWater (w h : ℕ) (s : FluvialSettings) : Type 0 where
  pub land : (fluvial_plan w h s).land.water_level ≡ s.water_level
  pub cuts : (fluvial_plan w h s).cuts.water_level ≡ s.water_level
  pub slides : (fluvial_plan w h s).slides.water_level ≡ s.water_level

abbrev pub OneWaterLevel : Type 0
OneWaterLevel = (w h : ℕ) (s : FluvialSettings) → OneWater w h s

-- the passes and the parameters of a thermal run
abbrev pub thermal_passes : ℕ → ℕ → ThermalSettings → ℕ
thermal_passes w h s = passes_of s.iterations (scale_of w h)

abbrev pub thermal_params : ℕ → ℕ → ThermalSettings → ThermalParams
thermal_params w h s = slides_of w h s.talus s.strength s.water_level
