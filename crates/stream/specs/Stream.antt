-- The reader of document 01, 'The stream': from bytes to the run that they ask for, or to a refusal.
use Rattle.std.specs.declared.result.Result.{Result}
use Rattle.std.specs.declared.result.Result.TheVariants.{Ok, Err}
use Rattle.answers.specs.declared.Refusal.{Refusal}
use Rattle.std.specs.Prelude.{ℕ, ◌+◌, ◌-◌, ◌*◌, ◌≤◌, ◌≡◌, Bool, false, not, ◌&&◌, ◌||◌, cond, List, length, eqb, ltb, Float}
use Rattle.answers.specs.Outcome.{Outcome, gives, refused, refused_at, refusal_of}
use Rattle.grid.specs.Sides.{bad_sides, InRange}
use Rattle.grid.specs.Heights.{first_not_finite, all_finite}
use Rattle.grid.specs.declared.Sides.{Sides}
use Rattle.run_settings.specs.Refusals.{bad_fluvial, bad_thermal}
use Rattle.run_settings.specs.declared.FluvialSettings.{FluvialSettings}
use Rattle.run_settings.specs.declared.ThermalSettings.{ThermalSettings}
use Rattle.stream_bytes.specs.Bytes.{number2, number4, float4, grid_mark, fluvial_mark, thermal_mark, same, mark_at, marked}
use Rattle.stream_rows.specs.Rows.{row_at, rows_marked, heights_at}
use Rattle.stream.specs.declared.Settings.{Settings}
use Rattle.stream.specs.declared.Settings.TheVariants.{Fluvial, Thermal}
use Rattle.stream.specs.declared.Header.{Header}

-- What a stream asks for: its header, and the heights of its grid row by row.
pub record Parsed : Type 0 where
  pub header : Header
  pub heights : List Float

-- 47 52: w, h, two bytes each
abbrev pub sides_at : List ℕ → Sides
sides_at s = record { w = number2 s 2; h = number2 s 4 }

-- how many bytes of values follow the mark of a settings record; 0 for any other mark
abbrev pub settings_length : List ℕ → ℕ
settings_length mark = cond (same mark fluvial_mark) 28 (cond (same mark thermal_mark) 24 0)

-- the rows begin behind the grid record of 6 bytes and the settings record
abbrev pub rows_at : List ℕ → ℕ
rows_at s = 8 + settings_length (mark_at s 6)

-- 46 4C: water level, strength, talus, uplift, iterations, working side, S; four bytes each
abbrev pub fluvial_at : List ℕ → FluvialSettings
fluvial_at s =
    record {
      water_level = float4 s 8;
      strength = float4 s 12;
      talus = float4 s 16;
      uplift = float4 s 20;
      iterations = number4 s 24;
      work_res = number4 s 28;
    }

-- 54 48: water level, talus, strength, iterations, working side, S; four bytes each
abbrev pub thermal_at : List ℕ → ThermalSettings
thermal_at s =
    record {
      water_level = float4 s 8;
      talus = float4 s 12;
      strength = float4 s 16;
      iterations = number4 s 20;
      work_res = number4 s 24;
    }

-- the fluvial or the thermal settings, by the mark of the settings record
abbrev pub settings_at : List ℕ → Settings
settings_at s = cond (marked s 6 fluvial_mark) (Fluvial (fluvial_at s)) (Thermal (thermal_at s))

-- S is the last value of a settings record, so it stands before the rows
unfoldable pub header_at : List ℕ → Header
header_at s = record { size = sides_at s; settings = settings_at s; stop = number4 s (rows_at s - 4); rows = rows_at s }

abbrev pub parsed_of : List ℕ → Header → Parsed
parsed_of s head = record { header = head; heights = heights_at s head.rows head.size.w head.size.h }

-- 8 of the grid record: another mark, or fewer than its 6 bytes
unfoldable pub bad_grid : List ℕ → Bool
bad_grid s = ltb (length s) 6 || not (marked s 0 grid_mark)

-- 8 of the rest: a settings record with another mark, an early end or bytes left over, or a row with another mark
unfoldable pub bad_rest : List ℕ → ℕ → ℕ → Bool
unfolding rows_marked
bad_rest s w h =
    eqb (settings_length (mark_at s 6)) 0
    || (not (eqb (length s) (row_at (rows_at s) w h)) || not (rows_marked s (rows_at s) w h))

-- 4: a setting outside its range
abbrev pub bad_settings : Settings → Bool
bad_settings (Fluvial s) = bad_fluvial s
bad_settings (Thermal s) = bad_thermal s

-- 4, then 5: a height not finite
abbrev pub values_of : Parsed → Outcome Parsed
values_of p =
    cond (bad_settings p.header.settings) (refused 4)
    (cond (all_finite p.heights) (gives p) (refused_at 5 (first_not_finite p.heights)))

-- Order: grid record 8, 1, 9, the rest 8, 4, 5. The stream check leaves 9, more than 4,096 cells, out: there `limited`
-- is false.
unfoldable pub read_stream : Bool → List ℕ → Outcome Parsed
unfolding header_at heights_at bad_grid bad_rest
read_stream limited s =
    let w = number2 s 2 in
    let h = number2 s 4 in
    cond (bad_grid s) (refused 8)
    (cond (bad_sides w h) (refused 1)
    (cond (limited && ltb 4096 (w * h)) (refused 9) (cond (bad_rest s w h) (refused 8) (values_of (parsed_of s (header_at s))))))

-- a stream that holds the whole of its settings record
pub record Recorded (s : List ℕ) : Type 0 where
  pub some : 32 ≤ rows_at s
  pub room : rows_at s ≤ length s

-- nothing of the stream s behind its grid record is refused by 8, on a w × h grid in range
pub record Whole (s : List ℕ) (w h : ℕ) : Type 0 where
  pub sides : InRange w h
  pub rest : bad_rest s w h ≡ false

-- the outcome that a `Read` of the stream s stands for
abbrev pub read_of : List ℕ → Result Header Refusal → Outcome Parsed
read_of s (Ok head) = gives (parsed_of s head)
read_of s (Err r) = refusal_of r
