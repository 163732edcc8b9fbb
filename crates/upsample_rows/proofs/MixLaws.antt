-- The arrays of columns, of ways and of mixes: what they hold once they are put there, and what is read from them.
use Prim.Native.Nat.{ℕ, ◌≤◌, ◌<◌}
use mathlib.Core.Path.{◌≡◌, ap, ap₂, ◌∙◌}
use mathlib.Core.List.{List}
use native.Mathlib.Omega.{arith}
use lib.ListN.{length, get_or}
use lib.Ieee.{Float, nan}
use Rattle.floats.specs.Stand.{fract_of, index_of}
use Rattle.loops.proofs.TableLaws.{filled_length, filled_read, filled_already}
use Rattle.bilinear.specs.Places.{Grid}
use Rattle.bilinear.specs.Samples.{as_source, across_of}
use Rattle.upsample_rows.specs.Rows.{Sampled, centre_of, reduced_column, way_of, Columns, ColumnsPut, mix_at, mix_put, Mix, Mixes, MixesPut}

-- the columns of a grid and its rows, on a reduced grid
pub all_columns : {w h len dw dh dlen : ℕ} → Grid w h len → Grid dw dh dlen → Sampled w dw w
all_columns g d = record { full = g.w_high; small = d.w_high; inside = omega arith }

pub row_in : {w h len dw dh dlen : ℕ} → Grid w h len → Grid dw dh dlen → (y : ℕ) → y < h → Sampled h dh y
row_in g d y l = record { full = g.h_high; small = d.h_high; inside = omega arith }

module _ (w dw : ℕ) where
  -- as the code works them out
  module _ (x : ℕ) {u : Float} (e : u ≡ centre_of w dw x) where
    pub column_is : {i : ℕ} → i ≡ index_of dw u → i ≡ reduced_column w dw x
    column_is f = f ∙ ap (index_of dw) e

    pub way_is : {d : Float} → d ≡ fract_of u → d ≡ way_of w dw x
    way_is f = f ∙ ap fract_of e

  -- the arrays that both were put into hold them
  pub columns_put : {cs cs' : List ℕ} {ds ds' : List Float} → ColumnsPut w dw cs ds cs' ds' → Columns w dw cs' ds'
  columns_put {cs} {ds = ds} p = record {
    column = λ x l. filled_read (reduced_column w dw) w cs p.columns x 0 l;
    way = λ x l. filled_read (way_of w dw) w ds p.ways x nan l;
  }

  module _ (x : ℕ) (l : x < w) {cs : List ℕ} {ds : List Float} (e : Columns w dw cs ds) where
    pub across_read : (delta : List Float) (dh y south : ℕ) {r : Float} → r ≡ across_of as_source delta dw dh (get_or cs x 0) (get_or ds x nan) y south → r ≡ mix_at delta dw dh w y south x
    across_read delta dh y south q = q ∙ ap₂ (λ (k : ℕ) (d : Float). across_of as_source delta dw dh k d y south) (e.column x l) (e.way x l)

-- an array that the mixes were put into holds them
module _ (delta : List Float) (dw dh w y south : ℕ) (row : List Float) (l : w ≤ 4096) where
  mix_put_lem : {row' : List Float} → row' ≡ mix_put delta dw dh w y south row → length row ≡ 4096 → Mix delta dw dh w y south row'
  mix_put_lem e m = record {
    at = λ x h. filled_read (mix_at delta dw dh w y south) w row e x nan h;
    long = ap length e ∙ filled_length (mix_at delta dw dh w y south) w row (omega arith) ∙ m;
  }

  -- and one that holds them already is as if they were put into it
  mix_held : Mix delta dw dh w y south row → row ≡ mix_put delta dw dh w y south row
  mix_held m = filled_already (mix_at delta dw dh w y south) w row nan (omega (arith, m.long)) m.at

module _ {delta : List Float} {dw dh w y : ℕ} {north south : List Float} (l : w ≤ 4096) where
  pub mixes_put : {north' south' : List Float} → MixesPut delta dw dh w y north south north' south' → length north ≡ 4096 → length south ≡ 4096 → Mixes delta dw dh w y north' south'
  mixes_put p n s = record { northern = mix_put_lem delta dw dh w y 0 north l p.northern n; southern = mix_put_lem delta dw dh w y 1 south l p.southern s }

  -- the arrays of one row are those of the same row
  pub mixes_held : {held : ℕ} → y ≡ held → Mixes delta dw dh w held north south → MixesPut delta dw dh w y north south north south
  mixes_held {held} e m = rw e (record { northern = mix_held delta dw dh w held 0 north l m.northern; southern = mix_held delta dw dh w held 1 south l m.southern })
