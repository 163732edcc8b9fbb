-- What whole runs refuse: 1 a side, 3 a length, 4 a setting, 5 a height.
use Rattle.std.specs.Prelude.{ℕ, ◌*◌, Bool, not, ◌||◌, cond, List, length, eqb, ltb, Float}
use Rattle.std.specs.Float.{binary32}
use Rattle.std.specs.Float.Ieee.{of_bits, neg}
use Rattle.std.specs.Float.Ieee.Scale.{finite}
use Rattle.answers.specs.Outcome.{outside_of}
use Rattle.grid.specs.Sides.{bad_sides}
use Rattle.grid.specs.Heights.{all_finite}
use Rattle.run_settings.specs.declared.FluvialSettings.{FluvialSettings}
use Rattle.run_settings.specs.declared.ThermalSettings.{ThermalSettings}

-- outside 0 to 1
abbrev pub not_share : Float → Bool
not_share x = outside_of x (of_bits binary32 0) (of_bits binary32 0x3f80_0000)

-- refusal 4 of either run: water level finite, strength and talus 0 to 1, iterations 0 to 4,096
abbrev pub bad_either : Float → Float → Float → ℕ → Bool
bad_either water strength talus iterations = not (finite water) || (not_share strength || (not_share talus || ltb 4096 iterations))

-- refusal 4 of a fluvial run: uplift -1 to 1 besides the ranges of either run
abbrev pub bad_fluvial : FluvialSettings → Bool
bad_fluvial s =
    outside_of s.uplift (neg (of_bits binary32 0x3f80_0000)) (of_bits binary32 0x3f80_0000)
    || bad_either s.water_level s.strength s.talus s.iterations

abbrev pub bad_thermal : ThermalSettings → Bool
bad_thermal s = bad_either s.water_level s.strength s.talus s.iterations

-- the number of the refusal, 0 if there is none
abbrev pub refusal_by : ℕ → ℕ → Bool → List Float → ℕ
refusal_by w h badSetting map =
    cond (bad_sides w h) 1 (cond (not (eqb (length map) (w * h))) 3 (cond badSetting 4 (cond (all_finite map) 0 5)))

abbrev pub fluvial_refusal : ℕ → ℕ → FluvialSettings → List Float → ℕ
fluvial_refusal w h s map = refusal_by w h (bad_fluvial s) map
